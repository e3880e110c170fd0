-- Two eager states that hold the same of every privilege that is named evaluate a term alike: an instance of the relational lemma, whose ancestor is 003's
-- Lemma 5.3.
use Rattle.std.specs.Prelude.{Bool, true, false, not, ◌&&◌, ◌||◌, List, [], ◌∷◌, ◌≡◌, refl, eqb}
use Rattle.std.proofs.Common.{true≢false, ap, ◌∙◌, eq-eqb, ne_eqb}
use Rattle.std.proofs.Math.Option.{Option, some}
use Rattle.std.proofs.Math.Path.{sym}
use Prim.Native.Nat.{ℕ}
use Rattle.privileges.specs.Sets.{has, remove}
use Rattle.privileges.specs.Laws.{has_meet, has_remove}
use Rattle.program.specs.Layout.{authority}
use Rattle.program.specs.Terms.{tree, program, Every, contains}
use Rattle.program.proofs.Laws.Readable.{WellFormed}
use Rattle.program.proofs.Laws.Trees.{program_every}
use Rattle.semantics.specs.Values.{empty}
use Rattle.semantics.specs.Names.{named_by, names}
use Rattle.semantics.specs.Meaning.{Mode, plain}
use Rattle.semantics.specs.Access.{chk, Rights, rights, privs, eager_control}
use Rattle.semantics.specs.Runs.{Request, Buffers, Sizes, sizes, stack, initial, evaluation}
use Rattle.semantics.proofs.Laws.Access.{privs_chk, add_authorised_has}
use Rattle.semantics.proofs.Laws.Agree.{NamesOnly, Simulation, agree}
use Rattle.soundness.specs.Laws.Runs.{eagerly_from, same_limited, as_eager}
use Rattle.irrelevance.specs.Claims.{Unnamed, DifferAtMost, withdrawn, TwoStarts}

-- ---- two eager states of one signer that hold the same of the privileges of P
record Alike (P : ℕ → Type 0) (r r' : Rights) : Type 0 where
  same_signer : r.signer ≡ r'.signer
  same_held : (q : ℕ) → P q → has q r.granted ≡ has q r'.granted

module _ (A : ℕ → ℕ) (P : ℕ → Type 0) where
  -- whatever is enabled, of P or not
  alike_simulation : Simulation P (eager_control A) (eager_control A)
  alike_simulation = record {
    related = Alike P;
    on_sign = λ n r r' h. record {
      same_signer = refl;
      same_held = λ q k. has_meet q r.granted (A n) ∙ (λ i. h.same_held q k i && has q (A n)) ∙ sym (has_meet q r'.granted (A n));
    };
    on_enable = λ p r r' h. record {
      same_signer = h.same_signer;
      same_held = λ q k.
          add_authorised_has A q r.signer p r.granted ∙ (λ i. eqb q p && has p (A (h.same_signer i)) || h.same_held q k i)
          ∙ sym (add_authorised_has A q r'.signer p r'.granted);
    };
    same_grants = λ r r' h q k. h.same_held q k;
  }

-- ---- frames without p grant every other privilege that they granted with it
pub withdrawn_grants : (A : ℕ → ℕ) (p : ℕ) (start : List ℕ) (q : ℕ) → (q ≡ p → ⊥) → chk A (stack start) q ≡ chk A (stack (withdrawn p start)) q
withdrawn_grants A p [] q n = refl
withdrawn_grants A p (m ∷ []) q n = refl
withdrawn_grants A p (m ∷ E ∷ xs) q n =
    let kept : has q E ≡ has q (remove p E) = sym (has_remove q p E ∙ ap (λ (b : Bool). not b && has q E) (ne_eqb q p n)) in
    λ i. has q (A m) && (kept i || withdrawn_grants A p xs q n i)

-- ---- the program of a sheet that does not name p
abbrev Other : (p : ℕ) → ℕ → Type 0
Other p q = q ≡ p → ⊥

other_named : (p : ℕ) (o : Option ℕ) → contains p o ≡ false → (q : ℕ) → o ≡ some q → Other p q
other_named p o h q e z = true≢false (sym (eq-eqb q p z) ∙ sym (ap (contains p) e) ∙ h)

names_others : (s : List ℕ) (p t : ℕ) → names s p t ≡ false → NamesOnly (Other p) (tree s t)
unfolding names
names_others s p t h = other_named p (named_by (tree s t)) h

program_names : (s : List ℕ) → WellFormed s → (p : ℕ) → Unnamed s p → Every (NamesOnly (Other p)) (program s)
program_names s w p u = program_every s w (NamesOnly (Other p)) (λ t l. names_others s p t (u.by_none t l))

-- ---- two evaluations of it
module _ (s : List ℕ) (w : WellFormed s) (p : ℕ) (u : Unnamed s p) where
  -- from two starts
  start_alike : (x y : List ℕ) → DifferAtMost s p x y → (q : Request) (z : Sizes) (M : Mode)
      → eagerly_from s x q z M ≡ eagerly_from s y q z M
  unfolding alike_simulation
  start_alike x y d q z M =
      let A : ℕ → ℕ = authority s in
      agree (Other p) (eager_control A) (eager_control A) (alike_simulation A (Other p)) M q.depth (program s) (program_names s w p u)
      (rights 0 (privs A (stack x))) (rights 0 (privs A (stack y)))
      (record { same_signer = refl; same_held = λ r n. privs_chk A (stack x) r ∙ d.others r n ∙ sym (privs_chk A (stack y) r) })
      empty tt (initial q z)

  -- and of either runner
  pub same_result : (x y : Request) (b d : Buffers) → TwoStarts s p x y b d → evaluation x.runner s x (sizes b) ≡ evaluation y.runner s y (sizes d)
  same_result x y b d t =
      as_eager s w (plain x.enforce) x (sizes b) x.runner ∙ (λ i. eagerly_from s x.start x (sizes b) (plain (t.first_enforced i)))
      ∙ start_alike x.start y.start t.differ x (sizes b) (plain true) ∙ same_limited s x y b d t.limits y.start (plain true)
      ∙ (λ i. eagerly_from s y.start y (sizes d) (plain (sym t.second_enforced i)))
      ∙ sym (as_eager s w (plain y.enforce) y (sizes d) y.runner)
