-- Laws of witnesses.
use Rattle.std.specs.Prelude.{ℕ, ◌≡◌, ◌↔◌, true, Bool, is_some, List, length, Some}
use Rattle.lol_base.specs.StartTags.{StartTag}
use Rattle.lol_instructions.specs.Tests.{Element}
use Rattle.lol_program.specs.Paths.{Path, Selectors, beginnings}
use Rattle.lol_machine.specs.Events.{Event}
use Rattle.lol_machine.specs.Documents.{element_of}
use Rattle.lol_machine.specs.Matching.{matches}
use Rattle.lol_machine.specs.Answers.{document}
use Rattle.lol_machine.specs.Standing.{Descend}
use Rattle.lol_reasons.specs.Witnesses.{IsWitness, innermost_witness, known_witness, AreNoNearer}

-- The innermost witness is a witness.
abbrev pub InnermostIsWitness : Type 0
InnermostIsWitness =
    (path : Path) (e : Element) (outer : List Element) (w : List ℕ)
    → innermost_witness path e outer ≡ Some w → IsWitness path w e outer

-- A path matches exactly if it has a witness.
abbrev pub MatchesByWitness : Type 0
MatchesByWitness =
    (path : Path) (e : Element) (outer : List Element)
    → (matches path e outer ≡ true) ↔ ((w : List ℕ) × IsWitness path w e outer)

-- There is an innermost witness exactly if the path matches.
abbrev pub InnermostWhereMatches : Type 0
InnermostWhereMatches =
    (path : Path) (e : Element) (outer : List Element) → is_some (innermost_witness path e outer) ≡ matches path e outer

-- A witness has as many numbers as the path has compounds.
abbrev pub WitnessesAreComplete : Type 0
WitnessesAreComplete =
    (path : Path) (e : Element) (outer : List Element) (w : List ℕ)
    → IsWitness path w e outer → length w ≡ length (beginnings path)

-- Where the numbers of the elements fall from the innermost outward: at no compound does any witness stand nearer than the innermost one.
abbrev pub NoneIsNearer : Type 0
NoneIsNearer =
    (path : Path) (e : Element) (outer : List Element) → Descend e.number outer
    → (v w : List ℕ) → innermost_witness path e outer ≡ Some w → IsWitness path v e outer → AreNoNearer v w

-- And it is the only witness of which that is so.
abbrev pub InnermostIsOnlyOne : Type 0
InnermostIsOnlyOne =
    (path : Path) (e : Element) (outer : List Element) → Descend e.number outer
    → (w : List ℕ) → IsWitness path w e outer → ((v : List ℕ) → IsWitness path v e outer → AreNoNearer v w)
    → innermost_witness path e outer ≡ Some w

-- The numbers always fall so where a tag comes after events.
abbrev pub NoneIsNearerInDocuments : Type 0
NoneIsNearerInDocuments =
    (s : Selectors) (esi : Bool) (events : List Event) (tag : StartTag) (path : Path) (v w : List ℕ)
    → innermost_witness path (element_of (document s esi events) tag) (document s esi events).open_elements ≡ Some w
    → IsWitness path v (element_of (document s esi events) tag) (document s esi events).open_elements
    → AreNoNearer v w

-- The innermost witness of a path that matches is found from what matches where, without a look at compounds.
abbrev pub InnermostIsKnown : Type 0
InnermostIsKnown =
    (path : Path) (e : Element) (outer : List Element) → matches path e outer ≡ true
    → innermost_witness path e outer ≡ Some (known_witness matches path e outer)
