-- Laws of lists that the proofs of several crates cite.
use Rattle.std.specs.Prelude.{List, ◌++◌, map, ◌≡◌, ℕ, suc, ◌+◌, ◌<◌, length, take, drop, get_or, set}
use Rattle.std.proofs.Common.{sym, ap, ◌∙◌, add-one, arith, length-take-le, take-suc, drop-cons}
use Rattle.std.proofs.lemmas.List.{length-map, set_at}
use Rattle.std.proofs.Math.Seq.{append_snoc}

-- what owning a struct with an array says of the array's length
pub sized_by : {A B : Type 0} (f : A → B) (l : List A) (n : ℕ) → length (map f l) ≡ n → length l ≡ n
sized_by f l n e = simp length-map at e

-- the same of an array of numbers
pub sized : (l : List ℕ) (n : ℕ) → length (map (λ (v : ℕ). v) l) ≡ n → length l ≡ n
sized l n e = sized_by (λ (v : ℕ). v) l n e

-- a copy in progress, the first entries of b before the rest of t, with one entry more
pub copied_more : {A : Type 0} (b t x : List A) (i : ℕ) (d : A) → i < length b → i < length t → x ≡ take i b ++ drop i t
    → set x i (get_or b i d) ≡ take (i + 1) b
    ++ drop (i + 1) t
copied_more {A = A} b t x i d h g e =
    ap (λ (y : List A). set y i (get_or b i d)) (e ∙ ap (λ (y : List A). take i b ++ y) (drop-cons t i d g))
    ∙ set_at (take i b) (get_or t i d) (drop (suc i) t) (get_or b i d) i (length-take-le i b (omega arith))
    ∙ sym (append_snoc (take i b) (get_or b i d) (drop (suc i) t))
    ∙ ap (λ (y : List A). y ++ drop (suc i) t) (sym (take-suc b i d h))
    ∙ sym (ap (λ (n : ℕ). take n b ++ drop n t) (add-one i))

-- the same of numbers
pub copy_more : (b t x : List ℕ) (i : ℕ) → i < length b → i < length t → x ≡ take i b ++ drop i t → set x i (get_or b i 0) ≡ take (i + 1) b ++ drop (i + 1) t
copy_more b t x i h g e = copied_more b t x i 0 h g e
