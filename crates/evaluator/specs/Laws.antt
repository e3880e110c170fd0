-- The words of a readable sheet's terms are a table as the evaluator asks: what a term of each action evaluates has a lower number, and a privilege is
-- below 32, also where it guards a channel. A number past the sheet's terms has the word of a childless term.
use Rattle.std.specs.Prelude.{true, false, cond, List, [], ◌∷◌, ◌≡◌, refl, ℕ, zero, suc, ◌<◌}
use Rattle.std.proofs.lemmas.Bool.{false≢true}
use Rattle.std.proofs.Common.{sym, ap, ◌∙◌, subst}
use Rattle.std.proofs.Math.Decide.{dec_lt, ℕ_discrete}
use native.Mathlib.Omega.{arith}
use borrow.Author.Tests.{leb-true}
use Rattle.program.specs.Decoding.{is_guard}
use Rattle.program.specs.Limits.{max_privilege}
use Rattle.program.specs.Layout.{terms, kind_byte, small}
use Rattle.program.specs.Formats.{Format, privilege, child, is_child, kind_of, format}
use Rattle.program.specs.Records.{CountsOf}
use Rattle.program.specs.declared.records.Counts.{Counts}
use Rattle.program.proofs.Laws.Readable.{WellFormed}
use Rattle.program.proofs.Laws.Guards.{channel_below}
use Rattle.program.proofs.Laws.Records.{term_is, term_none, guard_is}
use Rattle.program.proofs.Laws.Trees.{below, parts}
use Rattle.termtable.specs.Table.{word_kind, word_guard, OwnParts, WordOf, TermWords}
use Rattle.machine.specs.Store.{action_of}
use Rattle.machine.specs.Lower.{evaluates_first, evaluates_second, evaluates_third, reads_privilege, reads_guard, ChildrenLower}
use Rattle.evaluator.specs.Promises.{TermTable}

-- ---- what the action of a kind evaluates is a child in the kind's format, and what it reads as a privilege is one

-- the kind's format, with a privilege and children in the parts that its action leaves alone
used : (kind : ℕ) → Format
used k = record {
  small = cond (reads_privilege (action_of k)) (format (kind_of k)).small privilege;
  first = cond (evaluates_first (action_of k)) (format (kind_of k)).first child;
  second = cond (evaluates_second (action_of k)) (format (kind_of k)).second child;
  third = cond (evaluates_third (action_of k)) (format (kind_of k)).third child;
}

full : (kind : ℕ) → Format
full k = record { small = privilege; first = child; second = child; third = child }

-- the two agree: computed at the fifteen kinds, and so at each
listed : {A : Type 0} → (ℕ → A) → (count : ℕ) → List A
listed f zero = []
listed f (suc n) = f n ∷ listed f n

same_at : {A : Type 0} (f g : ℕ → A) (n : ℕ) → listed f n ≡ listed g n → (k : ℕ) → k < n → f k ≡ g k
unfolding listed
same_at f g zero e k h = absurd (omega arith)
same_at f g (suc n) e k h = elim (ℕ_discrete k n) [ yes p ↦ cc | no p ↦ same_at f g n (cc) k (omega arith) ]

same : listed used 15 ≡ listed full 15
unfolding used full listed action_of
same = refl

-- a guard is read at kind 14 alone
guarded : (kind : ℕ) → ℕ
guarded k = cond (reads_guard (action_of k)) k 14

guarded_same : listed guarded 15 ≡ listed (λ k. 14) 15
unfolding guarded listed action_of
guarded_same = refl

only_posts : (k : ℕ) → k < 15 → reads_guard (action_of k) ≡ true → k ≡ 14
unfolding guarded
only_posts k h e = let p = same_at guarded (λ k. 14) 15 guarded_same k h in rw e at p

-- ---- the word of one term
never : {A : Type 0} → false ≡ true → A
never e = absurd (false≢true e)

module _ {s : List ℕ} (w : WellFormed s) {c : Counts} (k : CountsOf s c) {t x : ℕ} (d : WordOf s c t x) where
  module _ (h : t < terms s) where
    abbrev kind : ℕ
    kind = kind_byte s t

    low : kind < 15
    low = omega (arith, (parts s w t h).kind_ok)

    post_guard : kind ≡ 14 → is_guard (word_guard x) ≡ true
    post_guard e =
        let r = term_is s w c k t h in
        let l = channel_below s w t h (ap (λ (n : ℕ). (format (kind_of n)).small) e) in
        subst (λ (g : ℕ). is_guard g ≡ true) (sym ((rw r at d.guard_is) e ∙ guard_is s w c k (small s t) l)) (w.guard_ok_holds (small s t) l)

    -- second and third stand in the word but of a sign and of a post, whose actions evaluate neither
    inside : ChildrenLower (action_of kind) t x
    unfolding used full action_of
    inside =
        let r = term_is s w c k t h in
        let p = parts s w t h in
        let b = below s w t h in
        let u = same_at used full 15 same kind low in
        record {
          first_lower = λ e. omega (arith, rw r at d.first_is, b.first_below (ap (λ (f : Format). is_child f.first) (rw e at u)));
          second_lower = λ e.
              let plain : OwnParts kind = record { no_sign = λ n. never (rw n at e); no_post = λ n. never (rw n at e) } in
              omega (arith, (rw r at d.second_is) plain, b.second_below (ap (λ (f : Format). is_child f.second) (rw e at u)));
          third_lower = λ e.
              let plain : OwnParts kind = record { no_sign = λ n. never (rw n at e); no_post = λ n. never (rw n at e) } in
              omega (arith, (rw r at d.third_is) plain, b.third_below (ap (λ (f : Format). is_child f.third) (rw e at u)));
          privilege = λ e. omega (
            arith,
            rw r at d.small_is,
            leb-true (small s t) max_privilege (rw (ap (λ (f : Format). f.small) (rw e at u)) at p.small_ok),
          );
          guard = λ e. post_guard (only_posts kind low e);
        }

  -- kind 0
  past : ChildrenLower (action_of 0) t x
  unfolding action_of
  past = record { first_lower = never; second_lower = never; third_lower = never; privilege = never; guard = never }

  lower : ChildrenLower (action_of (word_kind x)) t x
  lower = rw d.kind_is (elim (dec_lt t (terms s)) [
    | yes h ↦ rw (term_is s w c k t h) (inside h)
    | no h ↦ rw (term_none s w.terms_inside c k t (omega arith)) past
  ])

pub table_of : {s : List ℕ} → WellFormed s → {c : Counts} → CountsOf s c → {terms : List ℕ} → TermWords s c terms → TermTable terms
table_of w k d = record { long = d.long; lower = λ t. lower w k (d.holds t) }
