-- What a path goes on from is one path, by one step.
use Rattle.std.proofs.Common.{◌≡◌, Option, Some, None, ap}
use Rattle.lol_css.specs.declared.selector.Combinator.{Combinator}
use Rattle.lol_program.specs.Paths.{Path}

abbrev front_or : Path → Option (Path × Combinator) → Path
front_or d None = d
front_or d (Some u) = u.0

abbrev step_or : Combinator → Option (Path × Combinator) → Combinator
step_or d None = d
step_or d (Some u) = u.1

abbrev under : Path → Combinator → Option (Path × Combinator)
under a x = Some (a, x)

pub one_front : (a b : Path) (x y : Combinator) → under a x ≡ under b y → a ≡ b
one_front a b x y h = ap (front_or a) h

pub one_step : (a b : Path) (x y : Combinator) → under a x ≡ under b y → x ≡ y
one_step a b x y h = ap (step_or x) h
