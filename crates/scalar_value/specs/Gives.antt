-- What a call that may want memory answers, against the definition of its result.
-- Want of memory is the one free answer.
use Rattle.std.specs.Prelude.{◌≡◌, Option, Some, None, Result, Ok, Err}
use Rattle.scalar_value.specs.declared.memory.Or.{Or}
use Rattle.scalar_value.specs.declared.memory.Or.TheVariants.{Fault, Memory}

-- the value or the fault that is given
abbrev pub Gives : {T F : Type 0} → Result T (Or F) → Result T F → Type 0
Gives (Ok x) given = given ≡ Ok x
Gives (Err (Fault f)) given = given ≡ Err f
Gives (Err Memory) given = Unit {0}

-- the value that is given, and a fault exactly where there is none
abbrev pub GivesSome : {T F : Type 0} → Result T (Or F) → Option T → Type 0
GivesSome (Ok x) given = given ≡ Some x
GivesSome (Err (Fault f)) given = given ≡ None
GivesSome (Err Memory) given = Unit {0}

-- the same, where the value is seen through a view
abbrev pub GivesSomeAs : {T A F : Type 0} → (T → A) → Result T (Or F) → Option A → Type 0
GivesSomeAs view (Ok x) given = given ≡ Some (view x)
GivesSomeAs view (Err (Fault f)) given = given ≡ None
GivesSomeAs view (Err Memory) given = Unit {0}
