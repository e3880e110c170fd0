-- How what calls give is put together to what their caller gives: the end of a run, a run that goes on, a stop that stays, a value that goes on. Assumes
-- nothing.
use mathlib.Core.Bool.{true, false}
use mathlib.Core.List.{List}
use mathlib.Core.Path.{◌≡◌, refl, sym, ap, ◌∙◌}
use Prim.Native.Nat.{ℕ, ◌≤◌}
use native.Mathlib.Nat.{le_refl}
use native.Mathlib.Omega.{arith}
use denote.Ref.{MutBor}
use Rattle.stores.specs.Words.{is_stop}
use Rattle.machine.specs.declared.counters.Counters.{Counters}
use Rattle.machine.specs.Store.{Store, Done, store_of, done_of, and_then}
use Rattle.evaluator.specs.Promises.{names_of, store_now, Evaluated}

module _ {run : Store → Done} {n : Counters} {c p f o : MutBor (List ℕ)} where
  -- the run ends where it stands
  pub ends : {w : ℕ} → run (store_now n c p f o) ≡ done_of w (store_now n c p f o) → Evaluated run n c p f o w n c p f o
  ends e = record { done = sym e; calls = le_refl _; names = refl }

  -- it ends there, and what was lent meanwhile is as it was
  pub ends_same : {w : ℕ} {n' : Counters} {c' p' f' o' : MutBor (List ℕ)} → store_now n' c' p' f' o' ≡ store_now n c p f o
      → names_of c' p' f' o' ≡ names_of c p f o
      → run (store_now n c p f o) ≡ done_of w (store_now n c p f o) → Evaluated run n c p f o w n' c' p' f' o'
  ends_same {w} s k e = record {
    done = ap (λ (st : Store). done_of w st) s ∙ sym e;
    calls = omega (arith, ap (λ (st : Store). st.counters.calls_left) s);
    names = k;
  }

  module _ {run₂ : Store → Done} {r : ℕ} {n₁ : Counters} {c₁ p₁ f₁ o₁ : MutBor (List ℕ)} where
    -- the run goes on as another one, from a later state
    pub goes_on : {n₂ : Counters} {c₂ p₂ f₂ o₂ : MutBor (List ℕ)} → run (store_now n c p f o) ≡ run₂ (store_now n₂ c₂ p₂ f₂ o₂) → n₂.calls_left ≤ n.calls_left
        → names_of c₂ p₂ f₂ o₂ ≡ names_of c p f o
        → Evaluated run₂ n₂ c₂ p₂ f₂ o₂ r n₁ c₁ p₁ f₁ o₁ → Evaluated run n c p f o r n₁ c₁ p₁ f₁ o₁
    goes_on e l s h = record { done = h.done ∙ sym e; calls = omega (arith, l, h.calls); names = h.names ∙ s }

    module _ (k : ℕ → Store → Done) (is : (st : Store) → run st ≡ and_then (run₂ st) k) (h : Evaluated run₂ n c p f o r n₁ c₁ p₁ f₁ o₁) where
      pub stays : is_stop r ≡ true → Evaluated run n c p f o r n₁ c₁ p₁ f₁ o₁
      unfolding and_then
      stays e = record { done = sym (is _ ∙ ap (λ (d : Done). and_then d k) (sym h.done) ∙ rw e refl); calls = h.calls; names = h.names }

      pub follows : {r₂ : ℕ} {n₂ : Counters} {c₂ p₂ f₂ o₂ : MutBor (List ℕ)} → is_stop r ≡ false → Evaluated (k r) n₁ c₁ p₁ f₁ o₁ r₂ n₂ c₂ p₂ f₂ o₂
          → Evaluated run n c p f o r₂ n₂ c₂ p₂ f₂ o₂
      unfolding and_then
      follows e g = record {
        done = g.done ∙ sym (is _ ∙ ap (λ (d : Done). and_then d k) (sym h.done) ∙ rw e refl);
        calls = omega (arith, h.calls, g.calls);
        names = g.names ∙ h.names;
      }

-- a state with one list as it was
pub same_cells : (n : Counters) (p f o : List ℕ) {l l' : List ℕ} → l' ≡ l → store_of n l' p f o ≡ store_of n l p f o
same_cells n p f o e = ap (λ (l : List ℕ). store_of n l p f o) e
