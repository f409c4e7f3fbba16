-- What a contract sees of a limiter: the bytes that are counted, and the most that may be.
use Rattle.std.specs.Prelude.{ℕ, ◌+◌, ◌<◌, refl}
use Rattle.std.specs.Coded.{Coded, code_by, coded×, coded_ℕ}

pub record Limiter : Type 0 where
  pub usage : ℕ
  pub maximum : ℕ

abbrev pub limiter_code : Coded Limiter
limiter_code =
    code_by (ℕ × ℕ) (coded× coded_ℕ coded_ℕ) (λ l. (l.usage, l.maximum)) (λ p. record { usage = p.0; maximum = p.1 }) (λ _. refl)

-- the limiter with n bytes more counted
abbrev pub charged : Limiter → ℕ → Limiter
charged l n = record l { usage = l.usage + n }

-- n bytes more would pass the maximum
abbrev pub Passes : Limiter → ℕ → Type 0
Passes l n = l.maximum < l.usage + n
