-- 01's "Plausible blunders" about runs, the order of 19, 20 and 21, where 02's guards are decided, and which sums and differences are counted as held: for
-- each a term that tells the blunder from the meaning, in one table that one theorem proves by computation, for both access controls.
use Rattle.std.specs.Prelude.{Bool, true, false, List, [], ◌∷◌, map, ◌≡◌, refl, ℕ, zero, suc}
use Rattle.std.proofs.Math.Option.{none, some}
use Rattle.privileges.specs.Sets.{has, meet, union, insert}
use Rattle.program.specs.Terms.{Op, sum, difference, less, Term, boolean, number, variable, function, letrec, call, check, enable, sign, binary, post}
use Rattle.semantics.specs.Domains.{standard}
use Rattle.semantics.specs.Values.{bool, num, empty, empty_log, Budget, budget, Result, ends, stops}
use Rattle.semantics.specs.Meaning.{plain, eval_with, apply, eval}
use Rattle.semantics.specs.Access.{frame, privs, lazy_control, rights, add_authorised, eager_control}

-- principal 0 may use privilege 1, principal 1 nothing
abbrev authority : ℕ → ℕ
authority zero = 2
authority (suc n) = 0

pub record Example : Type 0 where
  pub term : Term
  pub enforce : Bool
  pub start : List (ℕ × ℕ)
  pub calls : ℕ
  pub cells : ℕ
  pub depth : ℕ
  pub room : ℕ
  pub result : Result

-- what is left, and the posts made, where nothing was saturated
abbrev left : (calls cells room : ℕ) (posts : List ℕ) → Budget
left c d r ps = budget c d r (record { posts = ps; saturated = 0; decisions = [] })

abbrev example : Term → List (ℕ × ℕ) → (calls depth : ℕ) → Result → Example
example c fs k d r = record { term = c; enforce = true; start = fs; calls = k; cells = 9; depth = d; room = 9; result = r }

-- on an empty stack, with so many places for posts, checks and guards in force or passed over
abbrev posting : Term → (enforce : Bool) (room : ℕ) → Result → Example
posting c enforce room r = record { term = c; enforce = enforce; start = []; calls = 9; cells = 9; depth = 9; room = room; result = r }

-- on an empty stack, with so many calls and cells
abbrev spending : Term → (calls cells : ℕ) → Result → Example
spending c k n r = record { term = c; enforce = true; start = []; calls = k; cells = n; depth = 9; room = 9; result = r }

-- an operation of principal 0 on two terms, which gives a value or is stuck, with so many saturated results
abbrev operating : (op : Op) (a b : Term) → (Budget → Result) → (saturated : ℕ) → Example
operating op a b r n = example (sign 9 0 (binary 8 op a b)) [] 9 9 (r (budget 9 9 9 (record { posts = []; saturated = n; decisions = [] })))

abbrev calculated : (op : Op) (m n : ℕ) → (Budget → Result) → (saturated : ℕ) → Example
calculated op m n r k = operating op (number 0 m) (number 1 n) r k

-- f is made where privilege 1 is not granted, and its body checks for it
abbrev with_checker : (rest : Term) → Term
with_checker rest = sign 20 0 (letrec 19 2 (sign 3 0 (check 2 1 (number 1 7))) rest)

-- principal 0 calls a function that gives 7
abbrev calling : Term
calling = sign 5 0 (call 4 (function 3 2 (sign 2 0 (number 1 7))) (number 0 0))

-- a post of principal 0 on channel 3, which privilege 1 guards
abbrev on_page : (inner : Term) → Term
on_page c = post 2 3 (some 1) c

pub examples : List Example
examples =
    -- "Enabling what the principal isn't authorised for."
    example (sign 3 1 (enable 2 1 (check 1 1 (number 0 7)))) [] 9 9 (stops 17 1 (left 9 9 9 []))
    -- "Running a body with the privileges of where the function was made": called under an enable, its check passes
    ∷ example (with_checker (enable 7 1 (call 6 (variable 4 0) (number 5 0)))) [] 9 9 (ends (num 7) (left 8 7 9 []))
    -- "Undoing an enable when the call inside it returns, not when its own term ends."
    ∷ example (with_checker (enable 10 1 (binary 9 sum (call 6 (variable 4 0) (number 5 0)) (check 8 1 (number 7 1))))) [] 9 9 (ends (num 8) (left 8 7 9 []))
    -- "both are undone when their term ends": what follows an enable is refused, and what follows a sign is granted
    ∷ example (sign 6 0 (binary 5 sum (enable 2 1 (check 1 1 (number 0 7))) (check 4 1 (number 3 1)))) [] 9 9 (stops 17 4 (left 9 9 9 []))
    ∷ example (sign 6 0 (enable 5 1 (binary 4 sum (sign 1 1 (number 0 7)) (check 3 1 (number 2 1))))) [] 9 9 (ends (num 8) (left 9 9 9 []))
    -- a frame without authority hides what is enabled behind it
    ∷ example (sign 2 0 (check 1 1 (number 0 7))) ((1, 0) ∷ (0, 2) ∷ []) 9 9 (stops 17 1 (left 9 9 9 []))
    -- "19 open calls would pass the allowance, then 20 calls spent"
    ∷ example calling [] 0 0 (stops 19 4 (left 0 9 9 []))
    -- "then 20 calls spent, then 21 no cell; 21 also at a recursive binder"
    ∷ spending calling 0 0 (stops 20 4 (left 0 0 9 []))
    ∷ spending calling 1 0 (stops 21 4 (left 1 0 9 []))
    ∷ spending (with_checker (number 4 7)) 9 0 (stops 21 19 (left 9 0 9 []))
    -- 02, W8: "channel × 65,536 + number", which is 3 × 65,536 + 7; the post yields its number
    ∷ posting (sign 4 0 (enable 3 1 (on_page (number 1 7)))) true 9 (ends (num 7) (left 9 9 8 (196615 ∷ [])))
    -- "it is refused by 17 after its number is worked out": a post inside it is made
    ∷ posting (sign 4 0 (on_page (post 1 0 none (number 0 7)))) true 9 (stops 17 2 (left 9 9 8 (7 ∷ [])))
    -- "after 18"
    ∷ posting (sign 4 0 (on_page (boolean 1 true))) true 9 (stops 18 2 (left 9 9 9 []))
    -- "and before 22"; where the guard passes, 22
    ∷ posting (sign 4 0 (on_page (number 1 7))) true 0 (stops 17 2 (left 9 9 0 []))
    ∷ posting (sign 4 0 (enable 3 1 (on_page (number 1 7)))) true 0 (stops 22 2 (left 9 9 0 []))
    -- "A run with checks passed over passes over guards too"
    ∷ posting (sign 4 0 (on_page (number 1 7))) false 9 (ends (num 7) (left 9 9 8 (196615 ∷ [])))
    -- 02, W10: "whether the exact result was outside 0 to 65,535"; one that just reaches a limit is not, and a less has none
    ∷ calculated sum 65535 0 (λ u. ends (num 65535) u) 0
    ∷ calculated sum 65535 1 (λ u. ends (num 65535) u) 1
    ∷ calculated sum 65535 65535 (λ u. ends (num 65535) u) 1
    ∷ calculated sum 0 1 (λ u. ends (num 1) u) 0
    ∷ calculated difference 7 7 (λ u. ends (num 0) u) 0
    ∷ calculated difference 7 8 (λ u. ends (num 0) u) 1
    ∷ calculated difference 65535 1 (λ u. ends (num 65534) u) 0
    ∷ calculated less 65535 65535 (λ u. ends (bool false) u) 0
    ∷ calculated less 7 8 (λ u. ends (bool true) u) 0
    -- "Both runners count the held ones": each of them, on either side
    ∷ operating sum (binary 2 sum (number 0 65535) (number 1 1)) (binary 5 difference (number 3 0) (number 4 1)) (λ u. ends (num 65535) u) 2
    -- a sum that is stuck counts nothing, and those before it are counted
    ∷ operating sum (number 0 65535) (boolean 1 true) (λ u. stops 18 8 u) 0
    ∷ operating sum (boolean 0 true) (number 1 65535) (λ u. stops 18 8 u) 0
    ∷ operating sum (binary 2 sum (number 0 65535) (number 1 1)) (boolean 3 true) (λ u. stops 18 8 u) 1
    ∷ []

pub eagerly : Example → Result
eagerly x =
    eval standard (eager_control authority) (plain x.enforce) x.depth x.term
    (rights 0 (privs authority (map (λ f. frame f.0 f.1) x.start))) empty (budget x.calls x.cells x.room empty_log)

pub lazily : Example → Result
lazily x =
    eval standard (lazy_control authority) (plain x.enforce) x.depth x.term
    (map (λ f. frame f.0 f.1) x.start) empty (budget x.calls x.cells x.room empty_log)

pub record Refuted : Type 0 where
  pub by_eager : map eagerly examples ≡ map (λ x. x.result) examples
  pub by_lazy : map lazily examples ≡ map (λ x. x.result) examples

pub refuted : Refuted
unfolding examples eagerly lazily eval apply eval_with add_authorised has meet union insert
refuted = record { by_eager = refl; by_lazy = refl }
