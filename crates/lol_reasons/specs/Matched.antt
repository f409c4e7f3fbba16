-- When a node of a program has matched an element, as far as a machine knows.
use Rattle.std.specs.Prelude.{ℕ, ◌≡◌, true, List, map, reverse, Contains}
use Rattle.lol_instructions.specs.Tests.{Element}
use Rattle.lol_program.specs.Paths.{Path, Selectors}
use Rattle.lol_program.specs.Programs.{Program, AreClosed, IsAt, IsProgramOf}
use Rattle.lol_machine.specs.Machines.{AreItems, OpenItem}
use Rattle.lol_machine.specs.Matching.{matches}

-- A program is one of selectors, whose addresses are those of these paths. The items, the innermost first, are those of the elements around an
-- element, and the numbers, the outermost first, theirs.
pub record IsAround (s : Selectors) (paths : List Path) (p : Program) (items : List OpenItem) (numbers : List ℕ) (outer : List Element) : Type 0 where
  pub closed : AreClosed s
  pub program : IsProgramOf s paths p
  pub are_items : AreItems paths p items outer
  pub are_numbers : map (λ e. e.number) outer ≡ reverse numbers

-- The path at a address matched an element inside these ones.
pub record HasMatched (s : Selectors) (paths : List Path) (p : Program) (address : ℕ) (path : Path) (items : List OpenItem) (numbers : List ℕ)
    (e : Element) (outer : List Element) : Type 0 where
  pub around : IsAround s paths p items numbers outer
  pub at : IsAt paths address path
  pub matched : matches path e outer ≡ true

-- A path was added under an id, and no other path was.
pub record IsAlone (s : Selectors) (path : Path) (id : ℕ) : Type 0 where
  pub added : Contains s.pairs (path, id)
  pub only : (other : Path) → Contains s.pairs (other, id) → other ≡ path
