-- A table of pairs knows nothing at first, and what it knows is so as long as the pairs that are noted are. Assumes nothing.
use mathlib.Core.Bool.{true, true≢false}
use mathlib.Core.List.{List}
use mathlib.Core.Logic.{⊎_elim}
use mathlib.Core.Path.{◌≡◌, sym, ap, ◌∙◌, subst, subst₂}
use Prim.Native.Nat.{ℕ, ◌*◌, ◌%◌, ◌<◌}
use native.Mathlib.Decide.{ℕ_discrete}
use native.Mathlib.Omega.{arith}
use lib.Dec.{eqb}
use lib.ListN.{length, get_or, set, replicate, length-set, length-replicate, get_or-replicate}
use lib.Seq.{get_or-set_same, get_or-set_other}
use borrow.Author.Tests.{eqb-true}
use Rattle.privileges.specs.Booleans.{or_cases}
use Rattle.privileges.specs.Sets.{has, insert}
use Rattle.privileges.specs.Laws.{has_none, has_insert}
use Rattle.program.specs.Limits.{max_types}
use Rattle.program.specs.Layout.{Types}
use Rattle.typing.specs.Subtyping.{Subtype}
use Rattle.subtyping.specs.Known.{word_index, knows, with_pair, Known}

pub note_word : (l : List ℕ) (a b : ℕ) {w : ℕ} → w ≡ insert (b % 32) (get_or l (word_index a b) 0) → set l (word_index a b) w ≡ with_pair l a b
unfolding with_pair
note_word l a b e = ap (set l (word_index a b)) e

-- an empty table knows nothing
pub known_none : (T : Types) (l : List ℕ) → l ≡ replicate (max_types * 8) 0 → Known T l
unfolding knows
known_none T l e = record {
  long = ap length e ∙ length-replicate {A = ℕ} (max_types * 8) 0;
  fits = λ a b ha hb k.
      let z : get_or l (word_index a b) 0 ≡ 0 = ap (λ (x : List ℕ). get_or x (word_index a b) 0) e
      ∙ get_or-replicate {A = ℕ} (max_types * 8) (word_index a b) 0 0 (omega arith) in
      absurd (true≢false (sym k ∙ ap (has (b % 32)) z ∙ has_none (b % 32)));
}

-- a word and a bit of it belong to one pair
one_pair : (a b x y : ℕ) → b < max_types → y < max_types → word_index x y ≡ word_index a b → y % 32 ≡ b % 32 → (x ≡ a) × (y ≡ b)
one_pair a b x y hb hy e g = (omega arith, omega arith)

module _ (T : Types) (l : List ℕ) (K : Known T l) (a b : ℕ) (ha : a < max_types) (hb : b < max_types) (h : Subtype T a b) where
  word : ℕ
  word = insert (b % 32) (get_or l (word_index a b) 0)

  noted_fits : (x y : ℕ) → x < max_types → y < max_types → knows (with_pair l a b) x y ≡ true → Subtype T x y
  unfolding knows with_pair word
  noted_fits x y hx hy k = go (ℕ_discrete (word_index x y) (word_index a b))
    where
      inside : word_index a b < length l
      inside = omega (arith, K.long)

      go : Dec (word_index x y ≡ word_index a b) → Subtype T x y
      go (no n) = K.fits x y hx hy (ap (has (y % 32)) (sym (get_or-set_other l (word_index a b) (word_index x y) word 0 n)) ∙ k)
      go (yes e) =
          let f : get_or (set l (word_index a b) word) (word_index x y) 0 ≡ word = ap (λ (i : ℕ). get_or (set l (word_index a b) word) i 0) e
          ∙ get_or-set_same l (word_index a b) word 0 inside in
          ⊎_elim
          (λ p. let q = one_pair a b x y hb hy e (eqb-true (y % 32) (b % 32) p) in subst₂ (Subtype T) (sym q.0) (sym q.1) h)
          (λ p. K.fits x y hx hy (ap (λ (i : ℕ). has (y % 32) (get_or l i 0)) e ∙ p))
          (or_cases (eqb (y % 32) (b % 32)) (has (y % 32) (get_or l (word_index a b) 0))
          (sym (has_insert (y % 32) (b % 32) (get_or l (word_index a b) 0)) ∙ ap (has (y % 32)) (sym f) ∙ k))

  pub known_noted : {l' : List ℕ} → l' ≡ with_pair l a b → Known T l'
  unfolding with_pair word
  known_noted e = subst (Known T) (sym e) (record { long = length-set l (word_index a b) word ∙ K.long; fits = noted_fits })
