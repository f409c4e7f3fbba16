use Rattle.std.proofs.Common.{◌≡◌, Bool, true, false, ◌∙◌, refl, subst, ap}
use Rattle.std.specs.Prelude.{slice_index}
use Rattle.std.specs.Bool.{OnTrue, OnFalse}
use Rattle.lol_rows.specs.KeyHashes.{name_hashes}
use Rattle.lol_rows.specs.Rows.{AreRowsOf, is_left_open, some_pass, HasPassing, NonePasses}
use Rattle.lol_rows.proofs.Left.{some_found, none_left}
use Rattle.lol_rows.proofs.rows.Rows.has_open.Goals as goal

pub returns-then-has_open_hashed : goal.returns-then-has_open_hashed
returns-then-has_open_hashed c = λ rows own.
    c.if-has_open_hashed.true ∙ some_found c.args.local_name.now.lowercased c.args.instructions.now c.args.range.now (c.if-has_open_hashed.ensures.found rows)

pub returns-else-has_open_hashed : goal.returns-else-has_open_hashed
returns-else-has_open_hashed c = by_result c.has_open_hashed-else-has_open_hashed.result refl
  where
    by_result : (b : Bool) → c.has_open_hashed-else-has_open_hashed.result ≡ b → AreRowsOf c.args.instructions.now c.args.self.now → c.args.hashes.now ≡ name_hashes c.args.local_name.now.lowercased
        → c.has_open_hashed-else-has_open_hashed.result ≡ some_pass (is_left_open c.args.local_name.now.lowercased) c.args.instructions.now c.args.range.now
    by_result true is rows own = is ∙ some_found c.args.local_name.now.lowercased c.args.instructions.now c.args.range.now (subst (λ k. OnTrue k (AreRowsOf c.args.instructions.now c.args.self.now → HasPassing (is_left_open c.args.local_name.now.lowercased) c.args.instructions.now c.args.range.now)) is c.has_open_hashed-else-has_open_hashed.ensures.found rows)
    by_result false is rows own =
        is ∙ none_left c.args.local_name.now.lowercased c.args.instructions.now c.args.range.now _ _ (ap (λ l. slice_index l 1) own) (ap (λ l. slice_index l 3) own)
        (c.if-has_open_hashed.ensures.none rows) (subst (λ k. OnFalse k (AreRowsOf c.args.instructions.now c.args.self.now → NonePasses (is_left_open c.args.local_name.now.lowercased) c.args.instructions.now c.args.range.now (slice_index c.args.hashes.now 3))) is c.has_open_hashed-else-has_open_hashed.ensures.none rows)
