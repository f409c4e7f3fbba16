-- Maps by name, looked up after a change.
use Rattle.std.proofs.Common.{◌≡◌, ◌∙◌, sym, ap, refl, true, false, cond, Option, None}
use Rattle.std.proofs.lemmas.Slice.Eq.{bytes_eq-Decides}
use Rattle.lol_base.specs.LocalNames.{Name, same_local_name}
use Rattle.lol_stack.specs.NameMaps.{SlottedNames, value_of, IsPutAt}

module _ {V : Type 0} where
  -- equal names find the same
  pub value-same : (m : SlottedNames V) (k q : Name) → same_local_name k q ≡ true → value_of m q ≡ value_of m k
  value-same m k q same =
      sym (ap (λ bytes. value_of m (record { lowercased = bytes; spelling = None })) ((bytes_eq-Decides k.lowercased q.lowercased).0 same))

  -- of two values that are put at one name, the second stays
  pub put-twice : (l m n : SlottedNames V) (k : Name) (v w : Option V) → IsPutAt k v l m → IsPutAt k w m n → IsPutAt k w l n
  put-twice l m n k v w first second q =
      second q
      ∙ (elim (same_local_name k q) as
      (λ same. value_of m q ≡ cond same v (value_of l q) → cond same w (value_of m q) ≡ cond same w (value_of l q)) [
        | true ↦ λ is. refl
        | false ↦ λ is. is
      ] (first q))

  module _ {B : Type 0} (read : Option V → B) where
    -- what is read from the values, after a change at one name that changes what is read there by f
    pub read-put : (f : B → B) (m n : SlottedNames V) (k : Name) (w : Option V) → IsPutAt k w m n → read w ≡ f (read (value_of m k)) → (q : Name)
        → read (value_of n q) ≡ cond (same_local_name k q) (f (read (value_of m q))) (read (value_of m q))
    read-put f m n k w put is q =
        ap read (put q)
        ∙ elim (same_local_name k q) as
        (λ same. same_local_name k q ≡ same → read (cond same w (value_of m q)) ≡ cond same (f (read (value_of m q))) (read (value_of m q))) [
          | true ↦ λ same. is ∙ ap (λ found. f (read found)) (sym (value-same m k q same))
          | false ↦ λ other. refl
        ] refl

    -- and where nothing changes, since f changes nothing of what is read there
    pub read-same : (f : B → B) (m : SlottedNames V) (k : Name) → f (read (value_of m k)) ≡ read (value_of m k) → (q : Name)
        → read (value_of m q) ≡ cond (same_local_name k q) (f (read (value_of m q))) (read (value_of m q))
    read-same f m k is q =
        elim (same_local_name k q) as
        (λ same. same_local_name k q ≡ same → read (value_of m q) ≡ cond same (f (read (value_of m q))) (read (value_of m q))) [
          | true ↦ λ same. ap read (value-same m k q same) ∙ (sym is ∙ ap (λ found. f (read found)) (sym (value-same m k q same)))
          | false ↦ λ other. refl
        ] refl

    -- a change at one name that changes nothing of what is read there
    pub read-kept : (m n : SlottedNames V) (k : Name) (w : Option V) → IsPutAt k w m n → read w ≡ read (value_of m k) → (q : Name)
        → read (value_of n q) ≡ read (value_of m q)
    read-kept m n k w put is q =
        ap read (put q)
        ∙ elim (same_local_name k q) as (λ same. same_local_name k q ≡ same → read (cond same w (value_of m q)) ≡ read (value_of m q)) [
          | true ↦ λ same. is ∙ ap read (sym (value-same m k q same))
          | false ↦ λ other. refl
        ] refl
