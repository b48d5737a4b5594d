-- What is known of an option whose text is given, or is not.
use Rattle.std.proofs.Common.{◌≡◌, ◌∙◌, Option, Some, None, Result, Ok, Err, false, is_some, refl, sym, ap}
use Rattle.std.specs.Prelude.{option_map}
use Rattle.std.specs.Option.{ok_or}
use Rattle.std.specs.Result.{IsErrAnd, result_err}

pub was_some : {X E : Type 0} (o : Option X) (e : E) (x : X) → ok_or o e ≡ Ok x → o ≡ Some x
was_some None e x is = absurd (cc)
was_some (Some y) e x is = let same : y ≡ x = cc in ap Some same

pub is_there : {X Y : Type 0} (f : X → Y) (o : Option X) → is_some (option_map f o) ≡ is_some o
is_there f None = refl
is_there f (Some x) = refl

-- what `ok_or` passed on is the text
pub passed : {X Y E : Type 0} (f : X → Y) (o : Option X) (e : E) (x : X) (text : Option Y) → option_map f o ≡ text → ok_or o e ≡ Ok x → text ≡ Some (f x)
passed f o e x text same is = sym same ∙ ap (option_map f) (was_some o e x is)

pub not_known : {X : Type 0} (o : Option X) → false ≡ is_some o → o ≡ None
not_known None is = refl
not_known (Some x) is = absurd (cc)

-- the fault of an option that has nothing
pub its_fault : {X E : Type 0} (o : Option X) (w e : E) → ok_or o w ≡ Err e → e ≡ w
its_fault None w e is = cc
its_fault (Some x) w e is = absurd (cc)

-- a fault that is passed on is the fault
pub passed_fault : {X E : Type 0} (r : Result X E) (e : E) → IsErrAnd r (λ f. f ≡ e) → result_err r ≡ Some e
passed_fault (Ok x) e is = absurd is
passed_fault (Err f) e is = ap Some is
