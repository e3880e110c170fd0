-- The numbers of a lean sheet's records fit into two bytes, so that it is bytes if the old sheet is.
use Rattle.std.specs.Prelude.{Bool, true, false, cond, List, [], ◌∷◌, ◌++◌, ◌≡◌, ℕ, zero, suc, ◌+◌, ◌*◌, ◌<◌, take}
use Rattle.std.proofs.Common.{arith, ltb-true}
use Rattle.program.specs.Limits.{max_types, max_terms}
use Rattle.program.specs.Bytes.{byte, word16, Bytes}
use Rattle.program.specs.Layout.{types, type_at, type_field, terms, term_at, types_of}
use Rattle.program.specs.Formats.{Part, unused, flag, any_number, privilege, principal, channel, function_type, child, body_child}
use Rattle.program.specs.Decoding.{part_ok, format_at}
use Rattle.program.proofs.Laws.Readable.{WellFormed}
use Rattle.program.proofs.Laws.Trees.{parts}
use Rattle.erasure.specs.Kept.{gather}
use Rattle.erasure.specs.Lean.{kept_type, new_types, new_type, kept_term, new_terms, new_term, bytes16, type_bytes, new_part, term_bytes, type_field_bytes, term_field_bytes, lean_sheet}
use Rattle.erasure.proofs.Laws.Types.{lower, fun_in, number_in, new_types_most}
use Rattle.erasure.proofs.Laws.Terms.{term_in, new_terms_most}

-- ---- lists of bytes
bytes_nil : Bytes []
bytes_nil = record { below = λ i. omega arith }

bytes_cons : {x : ℕ} {l : List ℕ} → x < 256 → Bytes l → Bytes (x ∷ l)
bytes_cons {x} {l} h b = record { below = go }
  where
    go : (i : ℕ) → byte (x ∷ l) i < 256
    go zero = h
    go (suc i) = b.below i

bytes_tail : {x : ℕ} {l : List ℕ} → Bytes (x ∷ l) → Bytes l
bytes_tail b = record { below = λ i. b.below (suc i) }

bytes_append : (a b : List ℕ) → Bytes a → Bytes b → Bytes (a ++ b)
bytes_append [] b p q = q
bytes_append (x ∷ a) b p q = bytes_cons (p.below 0) (bytes_append a b (bytes_tail p) q)

bytes_take : (n : ℕ) (l : List ℕ) → Bytes l → Bytes (take n l)
bytes_take zero l b = bytes_nil
bytes_take (suc n) [] b = bytes_nil
bytes_take (suc n) (x ∷ l) b = bytes_cons (b.below 0) (bytes_take n l (bytes_tail b))

bytes_gather : (keep : ℕ → Bool) (f : ℕ → List ℕ) (n : ℕ) → ((t : ℕ) → t < n → Bytes (f t)) → Bytes (gather keep f n)
unfolding gather
bytes_gather keep f zero h = bytes_nil
bytes_gather keep f (suc n) h = bytes_append (gather keep f n) (cond (keep n) (f n) []) (bytes_gather keep f n (λ t l. h t (omega arith))) (go (keep n))
  where
    go : (b : Bool) → Bytes (cond b (f n) [])
    go true = h n (omega arith)
    go false = bytes_nil

-- a number of two bytes, followed by others
bytes_number : (x : ℕ) (l : List ℕ) → x < 65536 → Bytes l → Bytes (bytes16 x ++ l)
bytes_number x l h b = bytes_cons (omega arith) (bytes_cons (omega arith) b)

module _ (s : List ℕ) (w : WellFormed s) where
  pub type_small : (t : ℕ) → t < types s → new_type s t < max_types
  type_small t l = omega (arith, number_in s w t l, new_types_most s w, w.types_most)

  pub term_small : (t : ℕ) → t < terms s → new_term s t < max_terms
  term_small t l = omega (arith, term_in s w t l, new_terms_most s w, w.terms_most)

  pub part_small : (t : ℕ) → t < terms s → (p : Part) (x : ℕ) → x < 65536 → part_ok s t p x ≡ true → new_part s p x < 65536
  part_small t l unused x h ok = h
  part_small t l flag x h ok = h
  part_small t l any_number x h ok = h
  part_small t l privilege x h ok = h
  part_small t l principal x h ok = h
  part_small t l channel x h ok = h
  part_small t l function_type x h ok = omega (arith, type_small x (fun_in s w x ok))
  part_small t l child x h ok = let g = ltb-true x t ok in omega (arith, term_small x (omega arith))
  part_small t l body_child x h ok = let g = ltb-true x t ok in omega (arith, term_small x (omega arith))

  module _ (b : Bytes s) where
    word_below : (i : ℕ) → word16 s i < 65536
    word_below i = omega (arith, b.below i, b.below (i + 1))

    type_bytes_lem : (t : ℕ) → t < types s → Bytes (type_bytes s t)
    type_bytes_lem t l =
        let c = lower s w t (types s) l (omega arith) (omega arith) in
        bytes_cons (b.below (type_at s t))
        (bytes_cons (omega arith)
        (bytes_number (new_type s ((types_of s).arg t)) _ (omega (arith, type_small ((types_of s).arg t) c.arg))
        (bytes_number (new_type s ((types_of s).res t)) _ (omega (arith, type_small ((types_of s).res t) c.res))
        (bytes_cons (omega arith) (bytes_cons (omega arith) (bytes_cons (omega arith) (bytes_cons (omega arith) bytes_nil)))))))

    part_bytes : (t : ℕ) → t < terms s → (p : Part) (i : ℕ) (l : List ℕ) → part_ok s t p (word16 s i) ≡ true → Bytes l
        → Bytes (bytes16 (new_part s p (word16 s i)) ++ l)
    part_bytes t h p i l ok = bytes_number (new_part s p (word16 s i)) l (part_small t h p (word16 s i) (word_below i) ok)

    term_bytes_lem : (t : ℕ) → t < terms s → Bytes (term_bytes s t)
    term_bytes_lem t l =
        let p = parts s w t l in
        bytes_cons (b.below (term_at s t))
        (bytes_cons (b.below (term_at s t + 1))
        (part_bytes t l (format_at s t).first (term_at s t + 2) _ p.first_ok
        (part_bytes t l (format_at s t).second (term_at s t + 4) _ p.second_ok
        (part_bytes t l (format_at s t).third (term_at s t + 6) _ p.third_ok bytes_nil))))

    pub lean_bytes : Bytes (lean_sheet s)
    unfolding lean_sheet
    lean_bytes =
        let types-fit : 10 * new_types s < 65536 = omega (arith, new_types_most s w, w.types_most) in
        let terms-fit : 8 * new_terms s < 65536 = omega (arith, new_terms_most s w, w.terms_most) in
        bytes_append (take (type_field s) s) (type_field_bytes s ++ term_field_bytes s) (bytes_take (type_field s) s b)
        (bytes_append (type_field_bytes s) (term_field_bytes s)
        (bytes_cons (omega arith) (bytes_number (10 * new_types s) _ types-fit (bytes_gather (kept_type s) (type_bytes s) (types s) type_bytes_lem)))
        (bytes_cons (omega arith) (bytes_number (8 * new_terms s) _ terms-fit (bytes_gather (kept_term s) (term_bytes s) (terms s) term_bytes_lem))))
