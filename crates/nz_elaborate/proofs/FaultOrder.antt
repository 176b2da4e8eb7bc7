-- Lemmas of faults in their order, and of what they tell of names.
use Rattle.std.proofs.Common.{◌≡◌, ◌||◌, Bool, true, false, Option, Some, None, Result, Ok, Err, IfOk, refl, sym, ap, ◌∙◌, subst}
use Rattle.std.specs.Prelude.{IsErrOf}
use Rattle.nz_elaborate.specs.declared.faults.Fault.{Fault}
use Rattle.nz_elaborate.specs.declared.faults.Fault.TheVariants as faults
use Rattle.nz_elaborate.specs.declared.faults.ElaborateError.{ElaborateError}
use Rattle.nz_elaborate.specs.declared.faults.ElaborateError.TheVariants as told
use Rattle.nz_elaborate.specs.Faults.{joined, first_fault, clash_fault, of_names, TellsNames, Answers, Settles}
use Rattle.nz_elaborate.specs.Elaborate.{ClashesFirst, IsWellNamed}

-- ---- Faults that are joined

pub joined_none : (f : Option Fault) → joined f None ≡ f
joined_none None = refl
joined_none (Some faults.Unknown) = refl
joined_none (Some faults.Clash) = refl
joined_none (Some faults.Sort) = refl

pub joined_grouped : (f g h : Option Fault) → joined (joined f g) h ≡ joined f (joined g h)
joined_grouped None g h = refl
joined_grouped (Some faults.Unknown) g h = refl
joined_grouped (Some faults.Clash) None h = refl
joined_grouped (Some faults.Clash) (Some faults.Unknown) h = refl
joined_grouped (Some faults.Clash) (Some faults.Clash) None = refl
joined_grouped (Some faults.Clash) (Some faults.Clash) (Some faults.Unknown) = refl
joined_grouped (Some faults.Clash) (Some faults.Clash) (Some faults.Clash) = refl
joined_grouped (Some faults.Clash) (Some faults.Clash) (Some faults.Sort) = refl
joined_grouped (Some faults.Clash) (Some faults.Sort) None = refl
joined_grouped (Some faults.Clash) (Some faults.Sort) (Some faults.Unknown) = refl
joined_grouped (Some faults.Clash) (Some faults.Sort) (Some faults.Clash) = refl
joined_grouped (Some faults.Clash) (Some faults.Sort) (Some faults.Sort) = refl
joined_grouped (Some faults.Sort) None h = refl
joined_grouped (Some faults.Sort) (Some g) h = refl

pub names_joined : (f g : Option Fault) → of_names (joined f g) ≡ joined (of_names f) (of_names g)
names_joined None g = refl
names_joined (Some faults.Unknown) g = refl
names_joined (Some faults.Clash) None = refl
names_joined (Some faults.Clash) (Some faults.Unknown) = refl
names_joined (Some faults.Clash) (Some faults.Clash) = refl
names_joined (Some faults.Clash) (Some faults.Sort) = refl
names_joined (Some faults.Sort) None = refl
names_joined (Some faults.Sort) (Some g) = refl

-- the first fault of two parts
pub fault_parts : (u c v d : Bool) → joined (first_fault u c) (first_fault v d) ≡ first_fault (u || v) (c || d)
fault_parts true c v d = refl
fault_parts false true true d = refl
fault_parts false true false true = refl
fault_parts false true false false = refl
fault_parts false false v d = refl

pub tells_both : (f g : Option Fault) (u c v d : Bool) → TellsNames f u c → TellsNames g v d → TellsNames (joined f g) (u || v) (c || d)
tells_both f g u c v d p q =
    names_joined f g ∙ ap (λ x. joined x (of_names g)) p ∙ ap (joined (first_fault u c)) q ∙ fault_parts u c v d

or_round : (a b : Bool) → (a || b) ≡ (b || a)
or_round true true = refl
or_round true false = refl
or_round false true = refl
or_round false false = refl

or_none : (a : Bool) → (a || false) ≡ a
or_none true = refl
or_none false = refl

-- a name behind its arguments
pub tells_use : (f g : Option Fault) (u c v : Bool) → TellsNames f u c → TellsNames g v false → TellsNames (joined f g) (v || u) c
tells_use f g u c v p q = tells_both f g u c v false p q ∙ ap (λ b. first_fault b (c || false)) (or_round u v) ∙ ap (first_fault (v || u)) (or_none c)

pub clash_names : (c : Bool) → of_names (clash_fault c) ≡ first_fault false c
clash_names true = refl
clash_names false = refl

-- ---- Parts one after another

-- what is told so far, and then what the rest has, is the whole
abbrev pub Leads : Option Fault → Bool → Bool → Bool → Bool → Type 0
Leads f u c unknown clash = joined (of_names f) (first_fault u c) ≡ first_fault unknown clash

pub leads_next : (f g new : Option Fault) (u c v d unknown clash : Bool) → TellsNames g u c → new ≡ joined f g → Leads f (u || v) (c || d) unknown clash
    → Leads new v d unknown clash
leads_next f g new u c v d unknown clash told is before =
    ap (λ n. joined (of_names n) (first_fault v d)) is
    ∙ ap (λ n. joined n (first_fault v d)) (names_joined f g)
    ∙ ap (λ n. joined (joined (of_names f) n) (first_fault v d)) told
    ∙ joined_grouped (of_names f) (first_fault u c) (first_fault v d)
    ∙ ap (joined (of_names f)) (fault_parts u c v d)
    ∙ before

pub leads_end : (f : Option Fault) (unknown clash : Bool) → Leads f false false unknown clash → TellsNames f unknown clash
leads_end f unknown clash before = sym (joined_none (of_names f)) ∙ before

pub leads_none : (f : Option Fault) (u c : Bool) → f ≡ None → Leads f u c u c
leads_none f u c e = ap (λ g. joined (of_names g) (first_fault u c)) e

-- ---- What holds without a fault, and where a sort doesn't fit

settles_joined : (f g : Option Fault) (P P' Q : Type 0) → Settles f P Q → (g ≡ None → P → P') → (g ≡ Some faults.Sort → P → Q) → Settles (joined f g) P' Q
settles_joined None None P P' Q p go stop = go refl p
settles_joined None (Some faults.Unknown) P P' Q p go stop = tt
settles_joined None (Some faults.Clash) P P' Q p go stop = tt
settles_joined None (Some faults.Sort) P P' Q p go stop = stop refl p
settles_joined (Some faults.Unknown) g P P' Q p go stop = tt
settles_joined (Some faults.Clash) None P P' Q p go stop = tt
settles_joined (Some faults.Clash) (Some faults.Unknown) P P' Q p go stop = tt
settles_joined (Some faults.Clash) (Some faults.Clash) P P' Q p go stop = tt
settles_joined (Some faults.Clash) (Some faults.Sort) P P' Q p go stop = tt
settles_joined (Some faults.Sort) None P P' Q p go stop = p
settles_joined (Some faults.Sort) (Some faults.Unknown) P P' Q p go stop = tt
settles_joined (Some faults.Sort) (Some faults.Clash) P P' Q p go stop = tt
settles_joined (Some faults.Sort) (Some faults.Sort) P P' Q p go stop = p

pub settles_next : (f g new : Option Fault) (P P' Q : Type 0) → new ≡ joined f g → Settles f P Q → (g ≡ None → P → P') → (g ≡ Some faults.Sort → P → Q) → Settles new P' Q
settles_next f g new P P' Q is before go stop = subst (λ n. Settles n P' Q) (sym is) (settles_joined f g P P' Q before go stop)

pub settles_none : (f : Option Fault) (P Q : Type 0) → f ≡ None → P → Settles f P Q
settles_none f P Q e p = subst (λ g. Settles g P Q) (sym e) p

pub settles_clash : (f : Option Fault) (c : Bool) (P Q : Type 0) → Settles f P Q → Settles (joined f (clash_fault c)) P Q
settles_clash f true P Q before = settles_next f (Some faults.Clash) _ P P Q refl before (λ e p. p) (λ e p. cc)
settles_clash f false P Q before = settles_next f None _ P P Q refl before (λ e p. p) (λ e p. cc)

-- ---- What an answer tells

unknown_fault : (u c : Bool) → Some faults.Unknown ≡ first_fault u c → u ≡ true
unknown_fault true c e = refl
unknown_fault false true e = cc
unknown_fault false false e = cc

clash_first : (u c : Bool) → Some faults.Clash ≡ first_fault u c → ClashesFirst u c
clash_first true c e = cc
clash_first false true e = record { known = refl; clashes = refl }
clash_first false false e = cc

pub well_named : (u c : Bool) (P : Type 0) → None ≡ first_fault u c → P → IsWellNamed u c P
well_named true c P e p = cc
well_named false true P e p = cc
well_named false false P e p = record { known = refl; distinct = refl; holds = p }

module _ {T : Type 0} where
  pub told_unknown : (f : Option Fault) (r : Result T ElaborateError) (u c : Bool) → Answers f r → TellsNames f u c → IsErrOf r told.Unknown → u ≡ true
  told_unknown None (Ok v) u c a n e = cc
  told_unknown None (Err x) u c a n e = absurd a
  told_unknown (Some f) (Ok v) u c a n e = absurd a
  told_unknown (Some faults.Unknown) (Err x) u c a n e = unknown_fault u c n
  told_unknown (Some faults.Clash) (Err x) u c a n e = cc
  told_unknown (Some faults.Sort) (Err x) u c a n e = cc

  pub told_clash : (f : Option Fault) (r : Result T ElaborateError) (u c : Bool) → Answers f r → TellsNames f u c → IsErrOf r told.Clash → ClashesFirst u c
  told_clash None (Ok v) u c a n e = cc
  told_clash None (Err x) u c a n e = absurd a
  told_clash (Some f) (Ok v) u c a n e = absurd a
  told_clash (Some faults.Unknown) (Err x) u c a n e = cc
  told_clash (Some faults.Clash) (Err x) u c a n e = clash_first u c n
  told_clash (Some faults.Sort) (Err x) u c a n e = cc

  pub told_sort : (f : Option Fault) (r : Result T ElaborateError) (u c : Bool) (P Q : Type 0) → Answers f r → TellsNames f u c → Settles f P Q → IsErrOf r told.Sort
      → IsWellNamed u c Q
  told_sort None (Ok v) u c P Q a n h e = cc
  told_sort None (Err x) u c P Q a n h e = absurd a
  told_sort (Some f) (Ok v) u c P Q a n h e = absurd a
  told_sort (Some faults.Unknown) (Err x) u c P Q a n h e = cc
  told_sort (Some faults.Clash) (Err x) u c P Q a n h e = cc
  told_sort (Some faults.Sort) (Err x) u c P Q a n h e = well_named u c Q n h

  pub told_fine : (f : Option Fault) (r : Result T ElaborateError) (u c : Bool) (P Q : Type 0) (R : T → Type 0) → Answers f r → TellsNames f u c → Settles f P Q
      → IfOk r (λ v. P → R v) → IfOk r (λ v. IsWellNamed u c (R v))
  told_fine None (Ok v) u c P Q R a n h g = well_named u c (R v) n (g h)
  told_fine None (Err x) u c P Q R a n h g = absurd a
  told_fine (Some f) (Ok v) u c P Q R a n h g = absurd a
  told_fine (Some f) (Err x) u c P Q R a n h g = tt

-- what an answer has by each scope
pub ok_each : {T E S : Type 0} (r : Result T E) (P : S → Type 0) (Q : S → T → Type 0) → ((sc : S) → P sc → IfOk r (Q sc)) → IfOk r (λ v. (sc : S) → P sc → Q sc v)
ok_each (Ok v) P Q h = h
ok_each (Err e) P Q h = tt
