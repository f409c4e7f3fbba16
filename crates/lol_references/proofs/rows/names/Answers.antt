use lib.Utf8.{encode}
use Rattle.std.proofs.Common.{refl}
use Rattle.lol_references.specs.Decoding.{piece, ampersand}
use Rattle.lol_references.specs.Names.{named, row_of, row_among, part}
use Rattle.lol_references.specs.Numbers.{by_digits, character}
use Rattle.lol_references.proofs.rows.names.Goals as goal

pub returns : goal.returns
unfolding encode piece ampersand named row_of row_among part by_digits character
returns c = refl
