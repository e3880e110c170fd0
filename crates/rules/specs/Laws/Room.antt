-- 32 bindings suffice: judging a term adds fewer bindings than the term is high, and a readable program is at most 32 high.
-- A letrec adds two to its body, which counts two: it is a sign and what is signed.
use Rattle.std.specs.Prelude.{List, ◌≡◌, refl, ℕ, ◌+◌, ◌<◌, ◌≤◌, max}
use Rattle.std.proofs.Math.Nat.{max-le, le-max_left, le-max_right}
use Rattle.std.proofs.Common.{arith}
use Rattle.program.specs.Limits.{max_nesting}
use Rattle.program.specs.Layout.{root, Types, types_of}
use Rattle.program.specs.Terms.{Term, boolean, number, variable, function, letrec, call, if, check, enable, sign, test, binary, post, program}
use Rattle.program.proofs.Laws.Readable.{WellFormed}
use Rattle.program.proofs.Laws.Trees.{Signed, signed, Standard, program_standard}
use Rattle.program.proofs.Laws.Nesting.{height, program_height}
use Rattle.rules.specs.Inference.{binding_depth, binding_depth_at}

-- a sign has one to spare
abbrev spare : Term → ℕ
spare (boolean at b) = 0
spare (number at n) = 0
spare (variable at i) = 0
spare (function at ty body) = 0
spare (letrec at ty body rest) = 0
spare (call at f a) = 0
spare (if at c y o) = 0
spare (check at p c) = 0
spare (enable at p c) = 0
spare (sign at n c) = 1
spare (test at p y o) = 0
spare (binary at op a b) = 0
spare (post at ch g c) = 0

spare_signed : {c : Term} → Signed c → spare c ≡ 1
spare_signed signed = refl

both : {a b m n : ℕ} → a ≤ m → b ≤ n → max a b < 1 + max m n
both {a} {b} {m} {n} p q =
    let h : max a b ≤ max m n = max-le (omega (arith, le-max_left m n)) (omega (arith, le-max_right m n)) in omega arith

module _ (T : Types) where
  spare_height : (c : Term) → Standard T c → spare c + binding_depth c < height c
  spare_height (boolean at b) s = omega arith
  spare_height (number at n) s = omega arith
  spare_height (variable at i) s = omega arith
  spare_height (function at ty body) s = omega (arith, spare_height body s.2)
  spare_height (letrec at ty body rest) s =
      let p : 2 + binding_depth body ≤ height body = omega (arith, spare_height body s.2, spare_signed s.1) in
      let q : 1 + binding_depth rest ≤ height rest = omega (arith, spare_height rest s.3) in
      omega (arith, both p q)
  spare_height (call at f a) s =
      let p : binding_depth f ≤ height f = omega (arith, spare_height f s.0) in
      let q : binding_depth a ≤ height a = omega (arith, spare_height a s.1) in
      omega (arith, both p q)
  spare_height (if at c y o) s =
      let p : binding_depth c ≤ height c = omega (arith, spare_height c s.0) in
      let q : binding_depth y ≤ height y = omega (arith, spare_height y s.1) in
      let r : binding_depth o ≤ height o = omega (arith, spare_height o s.2) in
      let m : max (binding_depth y) (binding_depth o) ≤ max (height y) (height o) = omega (arith, both q r) in
      omega (arith, both p m)
  spare_height (check at p c) s = omega (arith, spare_height c s)
  spare_height (enable at p c) s = omega (arith, spare_height c s)
  spare_height (sign at n c) s = omega (arith, spare_height c s)
  spare_height (test at p y o) s =
      let p : binding_depth y ≤ height y = omega (arith, spare_height y s.0) in
      let q : binding_depth o ≤ height o = omega (arith, spare_height o s.1) in
      omega (arith, both p q)
  spare_height (binary at op a b) s =
      let p : binding_depth a ≤ height a = omega (arith, spare_height a s.0) in
      let q : binding_depth b ≤ height b = omega (arith, spare_height b s.1) in
      omega (arith, both p q)
  spare_height (post at ch g c) s = omega (arith, spare_height c s)

  pub room_height : (c : Term) → Standard T c → binding_depth c < height c
  room_height c s = omega (arith, spare_height c s)

pub root_room : (s : List ℕ) → WellFormed s → binding_depth_at s (root s) < max_nesting
unfolding binding_depth_at
root_room s w = omega (arith, room_height (types_of s) (program s) (program_standard s w), program_height s w)
