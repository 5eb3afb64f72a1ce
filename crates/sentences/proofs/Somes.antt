-- What an answer says that is there.
use Rattle.std.proofs.Common.{◌≡◌, Bool, true, cond, ◌⊎◌, Some, None, Ok, Err, Option, Result, arith}
use Rattle.std.specs.Option.{ok_or}

pub none_some : {P A : Type 0} {x : A} → ◌≡◌ {A = Option A} None (Some x) → P
none_some e = absurd cc

pub same_some : {A : Type 0} {x y : A} → ◌≡◌ {A = Option A} (Some x) (Some y) → x ≡ y
same_some e = cc

-- a test that lets something through
pub some_if : {A : Type 0} (t : Bool) (x y : A) → cond t (Some x) None ≡ Some y → (t ≡ true) × (y ≡ x)
some_if t x y e = grind arith

pub some_either : {A : Type 0} (t u : Bool) (x x' y : A) → cond t (Some x) (cond u (Some x') None) ≡ Some y → ((t ≡ true) × (y ≡ x)) ⊎ ((u ≡ true) × (y ≡ x'))
some_either t u x x' y e = grind arith

pub err_ok : {P T E : Type 0} {e : E} {x : T} → ◌≡◌ {A = Result T E} (Err e) (Ok x) → P
err_ok e = absurd cc

pub same_ok : {T E : Type 0} {x y : T} → ◌≡◌ {A = Result T E} (Ok x) (Ok y) → x ≡ y
same_ok e = cc

-- what `ok_or` answers
pub some_of_ok : {T E : Type 0} (o : Option T) (e : E) (x : T) → Ok x ≡ ok_or o e → o ≡ Some x
some_of_ok o e x h = grind arith

pub none_of_err : {T E : Type 0} (o : Option T) (e f : E) → Err f ≡ ok_or o e → (o ≡ None) × (f ≡ e)
none_of_err o e f h = grind arith
