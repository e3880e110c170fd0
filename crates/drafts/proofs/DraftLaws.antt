-- A draft that grows piece by piece.
use mathlib.Core.Bool.{Bool, cond}
use mathlib.Core.List.{List, [], ◌∷◌, ◌++◌, append-nil, append_assoc}
use mathlib.Core.Path.{◌≡◌, sym, ap, ◌∙◌, subst}
use Prim.Native.Nat.{ℕ, zero, suc, ◌+◌, ◌-◌, ◌/◌, ◌%◌, ◌^◌, ◌<◌, ◌≤◌}
use native.Mathlib.Omega.{arith}
use lib.ListN.{length, take}
use borrow.Author.Tests.{lt-ltb, le-ltb}
use Rattle.std.specs.Fmt.{decimal as std_decimal}
use Rattle.std.proofs.lemmas.Fmt.{AppendsLastDigit, decimal_from_appends, length-decimal-le}
use Rattle.text.specs.Text.{digit, decimal_in, decimal, hexadecimal}
use Rattle.drafts.specs.Internal.{contents, DraftAppended, DraftHolds, Blank}
use Rattle.drafts.specs.declared.draft.Draft.{Draft}

-- ---- pieces
none_more : (d : Draft) → DraftAppended d [] 0 d
none_more d = record { contents_are = sym (append-nil (contents d)); len_most = omega arith }

pub chained : (most : ℕ) {d u r : Draft} {a b : List ℕ} {m n : ℕ} → m + n ≤ most → DraftAppended d a m u → DraftAppended u b n r
    → DraftAppended d (a ++ b) most r
chained most {d = d} {a = a} {b = b} h p q = record {
  contents_are = q.contents_are ∙ ap (λ (xs : List ℕ). xs ++ b) p.contents_are ∙ append_assoc (contents d) a b;
  len_most = omega (arith, p.len_most, q.len_most);
}

pub from_blank : {d r : Draft} {a : List ℕ} {m : ℕ} → Blank d → DraftAppended d a m r → DraftHolds a m r
from_blank {d = d} {a = a} b p = record {
  contents_are = p.contents_are ∙ ap (λ (n : ℕ). take n d.bytes ++ a) b.len_is;
  len_most = omega (arith, p.len_most, b.len_is);
}

pub then_held : (most : ℕ) {d r : Draft} {a b : List ℕ} {m n : ℕ} → m + n ≤ most → DraftHolds a m d → DraftAppended d b n r → DraftHolds (a ++ b) most r
then_held most {b = b} h p q = record {
  contents_are = q.contents_are ∙ ap (λ (xs : List ℕ). xs ++ b) p.contents_are;
  len_most = omega (arith, p.len_most, q.len_most);
}

-- ---- drafts of digits
pub no_digits : (d : Draft) (k n : ℕ) → k ≡ 0 → DraftAppended d (hexadecimal k n) k d
unfolding hexadecimal
no_digits d k n e = subst (λ (j : ℕ). DraftAppended d (hexadecimal j n) j d) (sym e) (none_more d)

hexadecimal_next : {d u r : Draft} {x : ℕ} (k n : ℕ) → DraftAppended d (hexadecimal k (n / 16)) k u → x ≡ digit (n % 16) → DraftAppended u (x ∷ []) 1 r
    → DraftAppended d (hexadecimal (suc k) n) (suc k) r
unfolding hexadecimal
hexadecimal_next {u = u} {r = r} k n p e q = chained (suc k) (omega arith) p (subst (λ (y : ℕ). DraftAppended u (y ∷ []) 1 r) e q)

pub one_more_digit : {d u r : Draft} {x : ℕ} (k n : ℕ) → 0 < k → DraftAppended d (hexadecimal (k - 1) (n / 16)) (k - 1) u → x ≡ digit (n % 16)
    → DraftAppended u (x ∷ []) 1 r → DraftAppended d (hexadecimal k n) k r
one_more_digit zero n h p e q = absurd (omega (arith, h))
one_more_digit {d = d} {u = u} (suc k) n h p e q =
    hexadecimal_next k n (subst (λ (j : ℕ). DraftAppended d (hexadecimal j (n / 16)) j u) {x = suc k - 1} {y = k} (omega arith) p) e q

-- the definition's decimal digits are std's
std_digits : AppendsLastDigit decimal_in
unfolding decimal_in
std_digits = record {
  one = λ k n h. (λ i. cond (lt-ltb n 10 h i) [] (decimal_in k (n / 10)) ++ (digit (n % 10) ∷ []))
      ∙ ap (λ (m : ℕ). digit m ∷ []) {x = n % 10} {y = n} (omega (arith, h)) ∙ ap (λ (b : Bool). cond b (48 + n) (55 + n) ∷ []) (lt-ltb n 10 h);
  more = λ k n h. (λ i. cond (le-ltb n 10 h i) [] (decimal_in k (n / 10)) ++ (digit (n % 10) ∷ []))
      ∙ ap (λ (b : Bool). decimal_in k (n / 10) ++ (cond b (48 + n % 10) (55 + n % 10) ∷ [])) (lt-ltb (n % 10) 10 (omega arith));
}

pub spelled : {d r : Draft} {xs : List ℕ} (n : ℕ) → n < 2 ^ 64 → xs ≡ std_decimal n → DraftAppended d xs (length xs) r
    → DraftAppended d (decimal n) (length (decimal n)) r
unfolding decimal
spelled {d = d} {r = r} n h e p =
    subst (λ (xs : List ℕ). DraftAppended d xs (length xs) r)
    (e ∙ sym (decimal_from_appends decimal_in std_digits 20 n h (length-decimal-le 20 n (omega arith) (omega (arith, h)) h))) p
