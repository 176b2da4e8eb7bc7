-- The form of a term is made of those of its arguments.
use Rattle.std.proofs.Common.{◌≡◌, ℕ, zero, suc, arith, ◌<◌, Bool, true, false, List, [], ◌∷◌, length, get_or, Option, Some, None, Result, Ok, slice_get, refl, sym, ap, ap₂, subst, ◌∙◌, true≢false, if◌then◌else◌}
use Rattle.std.specs.Prelude.{IsSome, is_none, is_some, IsTrue, option_map, unwrap_or, pos}
use Rattle.std.specs.List.{AllByRecursion}
use Rattle.std.proofs.lemmas.Bool.{and_parts}
use Rattle.std.proofs.lemmas.List.Elements.{All-from_recursion, recursion_from_All}
use Rattle.std.proofs.lemmas.Option.{same_Some}
use Rattle.std.proofs.Math.Path.{fun_ext}
use Rattle.nz_lists.proofs.Elements.{AllByRecursion-weaker}
use Rattle.nz_spec.specs.numbers.Computation.{Computation, at_once, and_then}
use Rattle.nz_spec.specs.terms.Form as spec
use Rattle.nz_spec.specs.terms.Form.{constant_form, unit_form}
use Rattle.nz_spec.specs.terms.FormOf.{is_opened, head_form, form_of, forms_of, number_in}
use Rattle.nz_fractions.specs.Fraction.{Fraction, whole, first_wide, Sum}
use Rattle.nz_spec.specs.terms.Linear.{head_constant, constant_value, constant_values, is_linear, is_linear_node, are_linear, divides_by_constants}
use Rattle.nz_spec.specs.terms.Table.{Node, IsTable, TermOfNode, term_in, terms_at}
use Rattle.nz_spec.specs.terms.Term as term
use Rattle.nz_spec.specs.terms.Term.{Head, apply, Terms, sort_of, head_sort}
use Rattle.nz_term.specs.declared.stops.ArithmeticStop.{ArithmeticStop}
use Rattle.nz_lin.specs.declared.linear.Opening.{Opening}
use Rattle.nz_lin.specs.declared.linear.Opening.TheVariants.{Quotient as Divides}
use Rattle.nz_lin.specs.Forms.{Numbered, AreUnits, IsFormOf}
use Rattle.nz_lin.specs.Comes.{IsDone, IsFormed}
use Rattle.nz_lin.specs.Making.{AreMade, HaveForms, HaveUnits, Made, constants_at, difference_of, joined_forms, made_form, made_forms, opened_by, opened_kids, opening_in, opening_of, quotient_of, real_of}
use Rattle.nz_fractions.proofs.FirstOperations.{first_wide-none, no_operation}
use Rattle.nz_lin.proofs.ComputationSequences.{at_once_done, one_step, same_formed}

-- ---- Arguments

-- the constants among them
pub constants_are : (ns : List Node) (ks : List ℕ) → constant_values (terms_at (term_in ns) ks) ≡ constants_at ns ks
constants_are ns [] = refl
constants_are ns (k ∷ ks) = ap (λ (cs : List (Option Fraction)). constant_value (term_in ns k) ∷ cs) (constants_are ns ks)

module _ (ns : List Node) (made : Made) where
  -- the form of each is made
  abbrev pub KidsMade : List ℕ → Type 0
  KidsMade ks = AllByRecursion (λ k. IsFormOf ns k (made_form made k)) ks

  made_by : (k : ℕ) (o : Option Numbered) → made k ≡ o → IsSome o → AreMade ns made → IsFormOf ns k (made_form made k)
  made_by k None e some are = absurd (true≢false (sym some))
  made_by k (Some f) e some are = subst (λ (o : Option Numbered). IsFormOf ns k (unwrap_or o (record { parts = []; offset = whole (pos 0) }))) (sym e) (are k f e)

  pub kid_made : (k : ℕ) → IsSome (made k) → AreMade ns made → IsFormOf ns k (made_form made k)
  kid_made k some are = made_by k (made k) refl some are

  pub kids_made : (ks : List ℕ) → AreMade ns made → HaveForms made ks → KidsMade ks
  kids_made ks are have = AllByRecursion-weaker (λ k. IsSome (made k)) (λ k. IsFormOf ns k (made_form made k)) (λ k some. kid_made k some are) ks (recursion_from_All (λ k. IsSome (made k)) ks have)

  pub have_units : (ks : List ℕ) → KidsMade ks → HaveUnits ns made ks
  have_units ks h =
      All-from_recursion (λ k. AreUnits ns (made_form made k).parts) ks
      (AllByRecursion-weaker (λ k. IsFormOf ns k (made_form made k)) (λ k. AreUnits ns (made_form made k).parts) (λ k is. is.units) ks h)

  forms_fit : (ks : List ℕ) → KidsMade ks → first_wide (forms_of (number_in ns) (terms_at (term_in ns) ks)).operations ≡ None
  forms_fit [] h = no_operation
  forms_fit (k ∷ ks) h =
      first_wide-none (form_of (number_in ns) (term_in ns k)).operations (forms_of (number_in ns) (terms_at (term_in ns) ks)).operations h.0.fits ∙ forms_fit ks h.1

  forms_result : (ks : List ℕ) → KidsMade ks → made_forms ns made ks ≡ (forms_of (number_in ns) (terms_at (term_in ns) ks)).result
  forms_result [] h = refl
  forms_result (k ∷ ks) h = ap₂ (λ (f : spec.Form) (fs : List spec.Form). f ∷ fs) h.0.form (forms_result ks h.1)

  pub forms_done : (ks : List ℕ) → KidsMade ks → IsDone (forms_of (number_in ns) (terms_at (term_in ns) ks)) (made_forms ns made ks)
  forms_done ks h = record { result = forms_result ks h; fits = forms_fit ks h }

-- ---- Heads

the_same : {o p : Opening} → Some o ≡ Some p → o ≡ p
the_same e = cc

sums : (number : spec.Numbering) (s : term.NumberSort) (cs : List (Option Fraction)) (fs : List spec.Form) (u : spec.Form) → head_form number (term.sum s) cs fs u ≡ joined_forms number Sum fs
sums number s cs [] u = refl
sums number s cs (f ∷ fs) u = refl

differences : (number : spec.Numbering) (s : term.NumberSort) (cs : List (Option Fraction)) (fs : List spec.Form) (u : spec.Form) → head_form number (term.difference s) cs fs u ≡ difference_of number fs
differences number s cs [] u = refl
differences number s cs (f ∷ []) u = refl
differences number s cs (f ∷ g ∷ gs) u = refl

quotients : (number : spec.Numbering) (cs : List (Option Fraction)) (fs : List spec.Form) (u : spec.Form) → head_form number term.quotient cs fs u ≡ quotient_of cs fs
quotients number [] fs u = refl
quotients number (c ∷ cs) [] u = refl
quotients number (c ∷ cs) (f ∷ fs) u = refl

reals : (number : spec.Numbering) (cs : List (Option Fraction)) (fs : List spec.Form) (u : spec.Form) → head_form number term.to_real cs fs u ≡ real_of fs u
reals number cs [] u = refl
reals number cs (f ∷ []) u = refl
reals number cs (f ∷ g ∷ gs) u = refl

-- an operator over forms, by how it is opened
pub head_opened : (number : spec.Numbering) (h : Head) (o : Opening) (cs : List (Option Fraction)) (fs : List spec.Form) (u : spec.Form) → opening_of h ≡ Some o
    → head_form number h cs fs u ≡ opened_by number o cs fs u
head_opened number (term.sum s) o cs fs u e = subst (λ (x : Opening). head_form number (term.sum s) cs fs u ≡ opened_by number x cs fs u) (the_same e) (sums number s cs fs u)
head_opened number (term.difference s) o cs fs u e =
    subst (λ (x : Opening). head_form number (term.difference s) cs fs u ≡ opened_by number x cs fs u) (the_same e) (differences number s cs fs u)
head_opened number (term.product s) o cs fs u e = subst (λ (x : Opening). head_form number (term.product s) cs fs u ≡ opened_by number x cs fs u) (the_same e) refl
head_opened number term.quotient o cs fs u e = subst (λ (x : Opening). head_form number term.quotient cs fs u ≡ opened_by number x cs fs u) (the_same e) (quotients number cs fs u)
head_opened number term.to_real o cs fs u e = subst (λ (x : Opening). head_form number term.to_real cs fs u ≡ opened_by number x cs fs u) (the_same e) (reals number cs fs u)
head_opened number h o cs fs u e = absurd cc

opens : (h : Head) → is_opened h ≡ is_some (opening_of h)
opens (term.sum s) = refl
opens (term.difference s) = refl
opens (term.product s) = refl
opens term.quotient = refl
opens term.to_real = refl
opens h = refl

divides : (h : Head) (cs : List (Option Fraction)) → opening_of h ≡ Some Divides → is_linear_node h cs ≡ true → divides_by_constants cs ≡ true
divides (term.sum s) cs e linear = absurd cc
divides (term.difference s) cs e linear = absurd cc
divides (term.product s) cs e linear = absurd cc
divides term.quotient cs e linear = linear
divides term.to_real cs e linear = absurd cc
divides h cs e linear = absurd cc

-- ---- A term

-- by whether it is constant, and how it is opened
abbrev formed_by : spec.Numbering → Head → Terms → Option Fraction → Bool → Computation spec.Form
formed_by number h ts c opened =
    elim c [
      | Some q ↦ at_once (constant_form q)
      | None ↦
          if opened then and_then (forms_of number ts) (λ fs. head_form number h (constant_values ts) fs (unit_form (apply h ts)))
          else at_once (unit_form (apply h ts))
    ]

none_by : {o : Opening} (c : Option Fraction) (p : Option Opening) → (if is_some c then None else p) ≡ Some o → (c ≡ None) × (p ≡ Some o)
none_by None p e = (refl, e)
none_by (Some q) p e = absurd cc

-- the node of a number, by its head or by its arguments
head_by : (o : Option Node) (h : Head) → option_map (λ (n : Node). n.head) o ≡ Some h → (n : Node) × ((o ≡ Some n) × (n.head ≡ h))
head_by None h e = absurd cc
head_by (Some n) h e = (n, (refl, same_Some n.head h e))

kids_by : (o : Option Node) (ks : List ℕ) → option_map (λ (n : Node). n.kids) o ≡ Some ks → (n : Node) × ((o ≡ Some n) × (n.kids ≡ ks))
kids_by None ks e = absurd cc
kids_by (Some n) ks e = (n, (refl, same_Some n.kids ks e))

module _ (law : TermOfNode) (ns : List Node) (table : IsTable ns) (id : ℕ) where
  pub opening_is : (h : Head) → option_map (λ (n : Node). n.head) (slice_get ns id) ≡ Some h → constant_value (term_in ns id) ≡ None → opening_of h ≡ opening_in (term_in ns id)
  opening_is h at none =
      let n = head_by (slice_get ns id) h at in
      let t = law ns table id n.0 n.1.0 in
      let c : constant_value (apply n.0.head (terms_at (term_in ns) n.0.kids)) ≡ None = sym (ap constant_value t) ∙ none in
      ap opening_of (sym n.1.1) ∙ sym (ap (λ o. if is_some o then None else opening_of n.0.head) c) ∙ ap opening_in (sym t)

  -- the sort of a unit
  pub sort_is : (h : Head) → option_map (λ (n : Node). n.head) (slice_get ns id) ≡ Some h → head_sort h ≡ sort_of (term_in ns id)
  sort_is h at =
      let n = head_by (slice_get ns id) h at in
      ap head_sort (sym n.1.1) ∙ ap sort_of (sym (law ns table id n.0 n.1.0))

  -- ---- Constants

  constant_same : (n : Node) → slice_get ns id ≡ Some n → (q : Fraction) → constant_value (term_in ns id) ≡ Some q → at_once (constant_form q) ≡ form_of (number_in ns) (term_in ns id)
  constant_same n at q e =
      let t = law ns table id n at in
      let ts = terms_at (term_in ns) n.kids in
      let c : head_constant n.head (constant_values ts) ≡ Some q = sym (ap constant_value t) ∙ e in
      sym (ap (λ o. formed_by (number_in ns) n.head ts o (is_opened n.head)) c) ∙ ap (form_of (number_in ns)) (sym t)

  -- ---- Terms that are opened

  module _ (n : Node) (at : slice_get ns id ≡ Some n) (o : Opening) (is : opening_in (term_in ns id) ≡ Some o) where
    abbrev parts : Terms
    parts = terms_at (term_in ns) n.kids

    both : (constant_value (apply n.head parts) ≡ None) × (opening_of n.head ≡ Some o)
    both = none_by (constant_value (apply n.head parts)) (opening_of n.head) (sym (ap opening_in (law ns table id n at)) ∙ is)

    pub kids_are : opened_kids ns id ≡ n.kids
    kids_are = ap (λ x. if is_some x then elim (slice_get ns id) [ Some m ↦ m.kids | None ↦ [] ] else []) is ∙ ap (λ x. elim x [ Some m ↦ m.kids | None ↦ [] ]) at

    -- its operations are those of the arguments, and then its own
    pub form_is : and_then (forms_of (number_in ns) parts) (λ fs. opened_by (number_in ns) o (constants_at ns n.kids) fs (unit_form (term_in ns id))) ≡ form_of (number_in ns) (term_in ns id)
    form_is =
        let number = number_in ns in
        let t = law ns table id n at in
        let b : is_opened n.head ≡ true = opens n.head ∙ ap is_some both.1 in
        ap (λ (f : List spec.Form → Computation spec.Form). and_then (forms_of number parts) f)
        (fun_ext (λ fs. sym (head_opened number n.head o (constant_values parts) fs (unit_form (apply n.head parts)) both.1
        ∙ ap₂ (λ cs u. opened_by number o cs fs (unit_form u)) (constants_are ns n.kids) (sym t))))
        ∙ sym (ap (λ x. formed_by number n.head parts None x) b)
        ∙ sym (ap (λ x. formed_by number n.head parts x (is_opened n.head)) both.0) ∙ ap (form_of number) (sym t)

    pub formed : (made : Made) → AreMade ns made → HaveForms made n.kids → (r : Result Numbered ArithmeticStop)
        → IsFormed ns (opened_by (number_in ns) o (constants_at ns n.kids) (made_forms ns made n.kids) (unit_form (term_in ns id))) r
        → IsFormed ns (form_of (number_in ns) (term_in ns id)) r
    formed made are have r h =
        subst (λ (c : Computation spec.Form). IsFormed ns c r) form_is
        (same_formed ns _ _ r
        (one_step (forms_of (number_in ns) parts) (λ fs. opened_by (number_in ns) o (constants_at ns n.kids) fs (unit_form (term_in ns id))) (made_forms ns made n.kids)
        (forms_done ns made n.kids (kids_made ns made n.kids are have))) h)

    -- its divisors are constants
    pub divisors : o ≡ Divides → IsTrue (is_linear (term_in ns id)) → IsTrue (divides_by_constants (constants_at ns n.kids))
    divisors e linear =
        let whole : is_linear (apply n.head parts) ≡ true = sym (ap is_linear (law ns table id n at)) ∙ linear in
        sym (ap divides_by_constants (constants_are ns n.kids))
        ∙ divides n.head (constant_values parts) (both.1 ∙ ap Some e) ((and_parts (is_linear_node n.head (constant_values parts)) (are_linear parts) whole).0)

pub none_from : (o : Option Fraction) → is_some o ≡ false → o ≡ None
none_from None e = refl
none_from (Some q) e = absurd (true≢false e)

-- the arguments that are opened, by those of the node
pub opened_kids_are : (ns : List Node) (id : ℕ) (ks : List ℕ) → option_map (λ (n : Node). n.kids) (slice_get ns id) ≡ Some ks → is_some (opening_in (term_in ns id)) ≡ true → opened_kids ns id ≡ ks
opened_kids_are ns id ks at some =
    let n = kids_by (slice_get ns id) ks at in
    ap (λ b. if b then elim (slice_get ns id) [ Some m ↦ m.kids | None ↦ [] ] else []) some ∙ ap (λ o. elim o [ Some m ↦ m.kids | None ↦ [] ]) n.1.0 ∙ n.1.1

pub made_is : (made : Made) (k : ℕ) (f : Numbered) → made k ≡ Some f → made_form made k ≡ f
made_is made k f e = ap (λ (o : Option Numbered). unwrap_or o (record { parts = []; offset = whole (pos 0) })) e

pub node_by : (o : Option Node) → IsSome o → (n : Node) × (o ≡ Some n)
node_by None some = absurd (true≢false (sym some))
node_by (Some n) some = (n, refl)

-- ---- What a term is

module _ (law : TermOfNode) (ns : List Node) (table : IsTable ns) (id : ℕ) where
  -- a number
  pub constant_formed : IsSome (slice_get ns id) → (q : Fraction) → constant_value (term_in ns id) ≡ Some q → (f : Numbered) → f ≡ record { parts = []; offset = q }
      → IsFormed ns (form_of (number_in ns) (term_in ns id)) (Ok f)
  constant_formed inside q e f is =
      let n = node_by (slice_get ns id) inside in
      subst (λ (g : Numbered). IsFormed ns (form_of (number_in ns) (term_in ns id)) (Ok g)) (sym is)
      (subst (λ (c : Computation spec.Form). IsFormed ns c (Ok (record { parts = []; offset = q }))) (constant_same law ns table id n.0 n.1 q e)
      (at_once_done (constant_form q), record { names = tt; in_order = tt }))

  -- or it is opened
  module _ (ks : List ℕ) (at : option_map (λ (n : Node). n.kids) (slice_get ns id) ≡ Some ks) (o : Opening) (is : opening_in (term_in ns id) ≡ Some o) where
    same_kids : opened_kids ns id ≡ ks
    same_kids = opened_kids_are ns id ks at (ap is_some is)

    pub open_divisors : o ≡ Divides → IsTrue (is_linear (term_in ns id)) → IsTrue (divides_by_constants (constants_at ns ks))
    open_divisors e linear =
        let n = kids_by (slice_get ns id) ks at in
        subst (λ (l : List ℕ). IsTrue (divides_by_constants (constants_at ns l))) n.1.1 (divisors law ns table id n.0 n.1.0 o is e linear)

    module _ (made : Made) (are : AreMade ns made) (have : HaveForms made (opened_kids ns id)) where
      pub open_units : HaveUnits ns made ks
      open_units = subst (HaveUnits ns made) same_kids (have_units ns made (opened_kids ns id) (kids_made ns made (opened_kids ns id) are have))

      pub open_formed : (r : Result Numbered ArithmeticStop) → IsFormed ns (opened_by (number_in ns) o (constants_at ns ks) (made_forms ns made ks) (unit_form (term_in ns id))) r
          → IsFormed ns (form_of (number_in ns) (term_in ns id)) r
      open_formed r h =
          let n = kids_by (slice_get ns id) ks at in
          formed law ns table id n.0 n.1.0 o is made are (subst (HaveForms made) (same_kids ∙ sym n.1.1) have) r
          (subst (λ (l : List ℕ). IsFormed ns (opened_by (number_in ns) o (constants_at ns l) (made_forms ns made l) (unit_form (term_in ns id))) r) (sym n.1.1) h)

pub inside_some : (ns : List Node) (id : ℕ) → id < length ns → IsSome (slice_get ns id)
inside_some [] id inside = absurd (omega (arith, inside))
inside_some (n ∷ ns) zero inside = refl
inside_some (n ∷ ns) (suc id) inside = inside_some ns id (omega (arith, inside))

pub is_none_from : (o : Option Fraction) → is_none o ≡ true → o ≡ None
is_none_from None e = refl
is_none_from (Some q) e = absurd (true≢false (sym e))

-- a list of one number
pub only_one : (ks : List ℕ) → length ks ≡ 1 → ks ≡ get_or ks 0 0 ∷ []
only_one [] e = absurd (omega (arith, e))
only_one (k ∷ []) e = refl
only_one (k ∷ l ∷ ks) e = absurd (omega (arith, e))
