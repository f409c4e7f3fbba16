-- What a program of selectors does when it is run for a start tag.
use Rattle.std.specs.Prelude.{ℕ, ◌<◌, ◌≡◌, ◌||◌, Bool, true, false, List, [], ◌∷◌, ◌++◌, length, Contains}
use Rattle.std.specs.declared.ops.Range.{Range}
use Rattle.lol_base.specs.StartTags.{Attribute}
use Rattle.lol_instructions.specs.Tests.{Element}
use Rattle.lol_instructions.specs.Compounds.{with_rest}
use Rattle.lol_program.specs.Paths.{Path, Selectors}
use Rattle.lol_program.specs.Programs.{Program, AreClosed, IsProgramOf, IsAt, all_addresses}
use Rattle.lol_machine.specs.Machines.{OpenItem, AreItems, HoldOnce, LeftMatches, ranges_to_run}
use Rattle.lol_machine.specs.AddressRuns.{Context, is_open_at, context_of}

-- 1. Which addresses are run

-- There are as many instructions as nodes, and each node's address is one of theirs.
pub record HasEachNode (s : Selectors) (paths : List Path) (p : Program) : Type 0 where
  pub count : length p.instructions ≡ length s.nodes
  pub address : (node : Path) → Contains s.nodes node → (address : ℕ) × IsAt paths address node × (address < length p.instructions)

abbrev pub ProgramsHaveEachNode : Type 0
ProgramsHaveEachNode =
    (s : Selectors) (paths : List Path) (p : Program) → AreClosed s → IsProgramOf s paths p → HasEachNode s paths p

-- The ranges that are run for a start tag hold the address of each node whose left part matches exactly once, and no other address.
abbrev pub RangesHoldLeftMatches : Type 0
RangesHoldLeftMatches =
    (s : Selectors) (paths : List Path) (p : Program) (items : List OpenItem) (elements : List Element)
    → AreClosed s → IsProgramOf s paths p → AreItems paths p items elements
    → HoldOnce paths (ranges_to_run p items) (LeftMatches elements)

-- 2. Requests

-- whether there is a first address, which is open
abbrev pub starts_open : Program → Element → List ℕ → Bool
starts_open p e [] = false
starts_open p e (address ∷ ps) = is_open_at p e address

-- A request for the rest of a tag: what is left to run, and the context so far, which is what the addresses before give, whatever that rest
-- is. None of those is open; the first that is left is open, or the rest is asked for before anything is run.
pub record IsRequest (p : Program) (at_once content : Bool) (e : Element) (ranges : List (Range ℕ)) (context : Context) (left : List ℕ) : Type 0 where
  pub before : List ℕ
  pub parts : all_addresses ranges ≡ before ++ left
  pub closed : (address : ℕ) → Contains before address → is_open_at p e address ≡ false
  pub asks : (at_once || starts_open p e left) ≡ true
  pub gathered : (attributes : List Attribute) (self_closing finish : Bool) → context ≡ context_of p content (with_rest e attributes self_closing finish) before
