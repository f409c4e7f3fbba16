-- The names of the tags that the code knows by themselves.
use Rattle.std.specs.Prelude.{ℕ, List, codes}
use Rattle.lol_base.specs.declared.tag.Tag.{Tag}
use Rattle.lol_base.specs.declared.tag.Tag.TheVariants.{A, Area, Base, Basefont, Bgsound, Br, Col, Div, Embed, Hr, Img, Input, Keygen, Li, Link, Meta, Param, Source, Span, Track, Wbr}

abbrev pub tag_name : Tag → List ℕ
tag_name A = codes "a"
tag_name Area = codes "area"
tag_name Base = codes "base"
tag_name Basefont = codes "basefont"
tag_name Bgsound = codes "bgsound"
tag_name Br = codes "br"
tag_name Col = codes "col"
tag_name Div = codes "div"
tag_name Embed = codes "embed"
tag_name Hr = codes "hr"
tag_name Img = codes "img"
tag_name Input = codes "input"
tag_name Keygen = codes "keygen"
tag_name Li = codes "li"
tag_name Link = codes "link"
tag_name Meta = codes "meta"
tag_name Param = codes "param"
tag_name Source = codes "source"
tag_name Span = codes "span"
tag_name Track = codes "track"
tag_name Wbr = codes "wbr"
