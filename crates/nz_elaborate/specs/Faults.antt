-- The first rule that a term breaks, by the order of the rules: a name that isn't in scope, names that clash, a sort that doesn't fit.
use Rattle.std.specs.Prelude.{◌≡◌, ◌<◌, Bool, true, false, List, [], ◌∷◌, ◌++◌, length, Option, Some, None, Result, Ok, Err, ⊤}
use Rattle.nz_spec.specs.terms.Term.{Term}
use Rattle.nz_spec.specs.terms.Table.{Node}
use Rattle.nz_base.specs.declared.reply_errors.Error.{Error}
use Rattle.nz_base.specs.declared.reply_errors.Error.TheVariants as refusals
use Rattle.nz_elaborate.specs.declared.typed.Typed.{Typed}
use Rattle.nz_elaborate.specs.declared.typed.ApplyError.{ApplyError}
use Rattle.nz_elaborate.specs.declared.typed.ApplyError.TheVariants as errors
use Rattle.nz_elaborate.specs.declared.faults.Fault.{Fault}
use Rattle.nz_elaborate.specs.declared.faults.Fault.TheVariants as faults
use Rattle.nz_elaborate.specs.declared.faults.ElaborateError.{ElaborateError}
use Rattle.nz_elaborate.specs.declared.faults.ElaborateError.TheVariants as told
use Rattle.nz_elaborate.specs.declared.faults.Found.{Found}
use Rattle.nz_elaborate.specs.declared.faults.Found.TheVariants as found
use Rattle.nz_elaborate.specs.Elaborate.{StandsAs}

-- ---- Faults in their order

abbrev pub first : Fault → Option Fault → Fault
first faults.Unknown g = faults.Unknown
first faults.Clash (Some faults.Unknown) = faults.Unknown
first faults.Clash (Some faults.Clash) = faults.Clash
first faults.Clash (Some faults.Sort) = faults.Clash
first faults.Clash None = faults.Clash
first faults.Sort (Some g) = g
first faults.Sort None = faults.Sort

abbrev pub joined : Option Fault → Option Fault → Option Fault
joined None g = g
joined (Some f) g = Some (first f g)

-- the first fault of names, where some are unknown and where some clash
abbrev pub first_fault : Bool → Bool → Option Fault
first_fault true clash = Some faults.Unknown
first_fault false true = Some faults.Clash
first_fault false false = None

abbrev pub clash_fault : Bool → Option Fault
clash_fault clash = first_fault false clash

-- what a fault tells of names
abbrev pub of_names : Option Fault → Option Fault
of_names (Some faults.Unknown) = Some faults.Unknown
of_names (Some faults.Clash) = Some faults.Clash
of_names (Some faults.Sort) = None
of_names None = None

-- It is Unknown exactly where a name is, and else Clash exactly where names clash.
abbrev pub TellsNames : Option Fault → Bool → Bool → Type 0
TellsNames f unknown clash = of_names f ≡ first_fault unknown clash

abbrev pub error_of : Fault → ElaborateError
error_of faults.Unknown = told.Unknown
error_of faults.Clash = told.Clash
error_of faults.Sort = told.Sort

-- the error of the rule that a term breaks
abbrev pub refusal_by : ElaborateError → Error
refusal_by told.Unknown = refusals.UnknownSymbol
refusal_by told.Clash = refusals.AlreadyDeclared
refusal_by told.Sort = refusals.Sort
refusal_by told.Memory = refusals.OutOfMemory

-- the answer is no error where there is no fault, and else the error of the fault
abbrev pub Answers : {T : Type 0} → Option Fault → Result T ElaborateError → Type 0
Answers None (Ok v) = ⊤
Answers None (Err e) = ⊥
Answers (Some f) (Ok v) = ⊥
Answers (Some f) (Err e) = e ≡ error_of f

-- ---- What is found

abbrev pub fault_in : Found → Option Fault
fault_in (found.Term x) = None
fault_in (found.Fault f) = Some f

abbrev pub term_in_found : Found → Option Typed
term_in_found (found.Term x) = Some x
term_in_found (found.Fault f) = None

-- terms, and behind them one that is found
abbrev pub terms_with : List Typed → Found → List Typed
terms_with xs (found.Term x) = xs ++ x ∷ []
terms_with xs (found.Fault f) = xs

-- what is found of a bound name
abbrev pub bound_found : Option Typed → Found
bound_found (Some x) = found.Term x
bound_found None = found.Fault faults.Sort

-- what is found where arguments are taken, or aren't
abbrev pub IsAppliedAs : Result Typed ApplyError → Found → Type 0
IsAppliedAs (Ok x) f = f ≡ found.Term x
IsAppliedAs (Err errors.Sort) f = f ≡ found.Fault faults.Sort
IsAppliedAs (Err errors.Memory) f = ⊥

-- what is found, behind what may have a fault
abbrev pub after : Option Fault → Found → Found
after None f = f
after (Some g) f = found.Fault (first g (fault_in f))

-- a term that is found is in the table
abbrev pub IsFoundWithin : List Node → Found → Type 0
IsFoundWithin ns (found.Term x) = x.id < length ns
IsFoundWithin ns (found.Fault f) = ⊤

-- A term that is found is this one, and where a sort doesn't fit there is none. A fault of names says nothing of that.
abbrev pub IsFound : Found → Option Term → List Node → Type 0
IsFound (found.Term x) o ns = StandsAs o ns x
IsFound (found.Fault faults.Sort) o ns = o ≡ None
IsFound (found.Fault faults.Clash) o ns = ⊤
IsFound (found.Fault faults.Unknown) o ns = ⊤

-- without a fault this holds, and where a sort doesn't fit that
abbrev pub Settles : Option Fault → Type 0 → Type 0 → Type 0
Settles None P Q = P
Settles (Some faults.Sort) P Q = Q
Settles (Some faults.Clash) P Q = ⊤
Settles (Some faults.Unknown) P Q = ⊤
