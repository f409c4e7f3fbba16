-- The numbers of selectors, of which there is one.
use Rattle.std.proofs.Common.{◌≡◌, List, [], ◌∷◌, ◌++◌, map, refl, sym, ap}
use Rattle.std.specs.Prelude.{ℕ, decimal}
use Rattle.std.specs.List.{flat_map}
use Rattle.std.proofs.lemmas.List.{append-nil}
use Rattle.lol_memory.specs.declared.match_info.MatchInfo.{MatchInfo}
use Rattle.lol_machine.specs.Answers.{Match}
use Rattle.lol_machine.specs.Views.{match_of}
use Rattle.zugrenja.specs.Lines.{later_number, numbers}

pub numbers_are : (m : MatchInfo) (more : List MatchInfo) → numbers (map match_of (m ∷ more)) ≡ decimal m.match_id ++ flat_map later_number more
numbers_are m [] = sym (append-nil (decimal m.match_id))
numbers_are m (next ∷ more) = ap (λ (l : List ℕ). decimal m.match_id ++ 44 ∷ l) (numbers_are next more)

pub each_is : (f : Match → List ℕ) (ms : List MatchInfo) → flat_map f (map match_of ms) ≡ flat_map (λ (m : MatchInfo). f (match_of m)) ms
each_is f [] = refl
each_is f (m ∷ ms) = ap (λ (l : List ℕ). f (match_of m) ++ l) (each_is f ms)
