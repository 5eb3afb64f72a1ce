-- Where a run of bytes leads, from what is expected first.
use Rattle.std.proofs.Common.{◌≡◌, ℕ, zero, suc, ◌-◌, cond, eqb, List, [], ◌∷◌, ◌++◌, replicate, Some, None, Option, refl, ap, ◌∙◌, arith}
use Rattle.sentences.specs.Shape.{after}
use Rattle.sentences.specs.declared.shape.Expect.{Expect}
use Rattle.sentences.specs.declared.shape.Expect.TheVariants.{Dollar, Address, Separator, Fields, HighDigit, LowDigit, End}

abbrev pub bind : {A B : Type 0} → Option A → (A → Option B) → Option B
bind None f = None
bind (Some x) f = f x

abbrev pub run : Expect → List ℕ → Option Expect
run e [] = Some e
run e (b ∷ bs) = bind (after e b) (λ next. run next bs)

pub bind_some : {A B : Type 0} (o : Option A) (f : A → Option B) (y : B) → bind o f ≡ Some y → (x : A) × (o ≡ Some x) × (f x ≡ Some y)
bind_some None f y e = absurd cc
bind_some (Some x) f y e = (x, refl, e)

-- one byte of a run
pub run_step : (e next : Expect) (b : ℕ) (bs : List ℕ) → after e b ≡ Some next → run e (b ∷ bs) ≡ run next bs
run_step e next b bs h = grind arith

pub run_wrong : (e : Expect) (b : ℕ) (bs : List ℕ) → after e b ≡ None → run e (b ∷ bs) ≡ None
run_wrong e b bs h = grind arith

-- one run after another
pub run_append : (xs ys : List ℕ) (e mid : Expect) → run e xs ≡ Some mid → run e (xs ++ ys) ≡ run mid ys
run_append [] ys e mid led = let same : e ≡ mid = cc in rw same
run_append (b ∷ bs) ys e mid led =
    let next = bind_some (after e b) (λ n. run n bs) mid led in
    run_step e next.0 b (bs ++ ys) next.1 ∙ run_append bs ys next.0 mid next.2

-- the front of a run that goes through goes through
pub run_front : (xs ys : List ℕ) (e end : Expect) → run e (xs ++ ys) ≡ Some end → (mid : Expect) × (run e xs ≡ Some mid)
run_front [] ys e end led = (e, refl)
run_front (b ∷ bs) ys e end led =
    let next = bind_some (after e b) (λ n. run n (bs ++ ys)) end led in
    let again = run_front bs ys next.0 end next.2 in
    (again.0, run_step e next.0 b bs next.1 ∙ again.1)

-- what goes on to a right end, from anywhere
pub ending : Expect → List ℕ
ending Dollar = 36 ∷ 65 ∷ 65 ∷ 65 ∷ 65 ∷ 65 ∷ 42 ∷ 48 ∷ 48 ∷ []
ending (Address left) = replicate left 65 ++ (65 ∷ 42 ∷ 48 ∷ 48 ∷ [])
ending Separator = 42 ∷ 48 ∷ 48 ∷ []
ending Fields = 42 ∷ 48 ∷ 48 ∷ []
ending HighDigit = 48 ∷ 48 ∷ []
ending LowDigit = 48 ∷ []
ending End = []

-- the address goes on while bytes of it are to come
pub address_more : (left : ℕ) → cond (eqb (suc left) 0) Separator (Address (suc left - 1)) ≡ Address left
address_more left = grind arith

pub ending_address : (left : ℕ) → run (Address left) (replicate left 65 ++ (65 ∷ 42 ∷ 48 ∷ 48 ∷ [])) ≡ Some End
ending_address zero = refl
ending_address (suc left) =
    ap (λ e. run e (replicate left 65 ++ (65 ∷ 42 ∷ 48 ∷ 48 ∷ []))) (address_more left) ∙ ending_address left

pub ending_right : (e : Expect) → run e (ending e) ≡ Some End
unfolding ending
ending_right Dollar = refl
ending_right (Address left) = ending_address left
ending_right Separator = refl
ending_right Fields = refl
ending_right HighDigit = refl
ending_right LowDigit = refl
ending_right End = refl
