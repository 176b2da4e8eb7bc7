-- Terms are entered and left from a stack, until the form of the first one is made.
use Rattle.std.proofs.Common.{◌≡◌, ◌==◌, inl, inr, ℕ, ◌<◌, Bool, true, false, cond, List, [], ◌∷◌, ◌++◌, length, map, Option, Some, None, slice_get, refl, sym, ap, subst, ◌∙◌, arith, true≢false, if◌then◌else◌}
use Rattle.std.specs.Prelude.{Ok, All, IsSome, IsTrue, is_some, reverse, ⊤}
use Rattle.std.specs.List.{AllByRecursion}
use Rattle.std.proofs.lemmas.Bool.{and_parts}
use Rattle.std.proofs.lemmas.Bool.Decides.{eqb_tells}
use Rattle.std.proofs.lemmas.List.{append_assoc, reverse-append, reverse-reverse}
use Rattle.std.proofs.lemmas.List.Elements.{All-cons, All-nil, recursion_from_All}
use Rattle.nz_spec.specs.terms.Form as spec
use Rattle.nz_spec.specs.terms.Form.{unit_form}
use Rattle.nz_spec.specs.terms.FormOf.{form_of, forms_of, number_in}
use Rattle.nz_fractions.specs.Fraction.{Operation, first_wide}
use Rattle.nz_spec.specs.terms.Linear.{constant_values, is_linear, is_linear_node, are_linear}
use Rattle.nz_spec.specs.terms.Table.{IsTable, Node, TermOfNode, term_in, terms_at}
use Rattle.nz_spec.specs.terms.Term.{apply}
use Rattle.nz_lin.specs.declared.linear.Opening.{Opening}
use Rattle.nz_lin.specs.declared.linear.Step.{Step}
use Rattle.nz_lin.specs.declared.linear.Step.TheVariants.{Enter, Leave}
use Rattle.nz_lin.specs.Forms.{Numbered, IsFormOf}
use Rattle.nz_lin.specs.Comes.{IsFormed}
use Rattle.nz_lin.specs.Making.{AreMade, HaveForms, Made, constants_at, entries, opened_by, opened_kids, opening_in, steps_of}
use Rattle.nz_fractions.proofs.FirstOperations.{first_wide-none, first_wide-some, no_operation}
use Rattle.nz_lin.proofs.TermForms.{form_is, kids_are}
use Rattle.nz_lin.proofs.Sizes.{turned}

-- ---- What waits

abbrev pub first_in : List Node → ℕ → Option Operation
first_in ns id = first_wide (form_of (number_in ns) (term_in ns id)).operations

-- the first operation of the term that leaves the numbers, if one does, is that of the root
pub record Leads (ns : List Node) (root id : ℕ) : Type 0 where
  pub within : id < length ns
  pub linear : IsTrue (is_linear (term_in ns id))
  pub stop : (w : Operation) → first_in ns id ≡ Some w → first_in ns root ≡ Some w

-- forms that are made stay, and more are made
pub record Later (ns : List Node) (made later : Made) : Type 0 where
  pub stays : (id : ℕ) → IsSome (made id) → IsSome (later id)
  pub are_made : AreMade ns later

abbrev pub term_of : Step → ℕ
term_of (Enter id) = id
term_of (Leave id) = id

abbrev pub Wants : List Node → Made → Step → Type 0
Wants ns made (Enter id) = ⊤
Wants ns made (Leave id) = HaveForms made (opened_kids ns id)

-- From the top of the stack down: each step may be done where those above it are, and where all are done the root's form is made.
abbrev pub Ready : List Node → ℕ → Made → List Step → Type 0
Ready ns root made [] = IsSome (made root)
Ready ns root made (s ∷ rest) = Leads ns root (term_of s) × Wants ns made s × ((later : Made) → Later ns made later → IsSome (later (term_of s)) → Ready ns root later rest)

pub later_itself : (ns : List Node) (made : Made) → AreMade ns made → Later ns made made
later_itself ns made are = record { stays = λ id some. some; are_made = are }

later_more : (ns : List Node) (made next later : Made) → Later ns made next → Later ns next later → Later ns made later
later_more ns made next later l m = record { stays = λ id some. m.stays id (l.stays id some); are_made = m.are_made }

-- ---- The arguments of a term that is entered

-- the terms are of the table, and linear
abbrev AreLinear : List Node → List ℕ → Type 0
AreLinear ns ks = AllByRecursion (λ k. (k < length ns) × IsTrue (is_linear (term_in ns k))) ks

-- the first of their operations that leaves the numbers is that of the root
abbrev AreLeading : List Node → ℕ → List ℕ → Type 0
AreLeading ns root ks = (w : Operation) → first_wide (forms_of (number_in ns) (terms_at (term_in ns) ks)).operations ≡ Some w → first_in ns root ≡ Some w

-- none of the operations of a form that is made leaves the numbers
fits_in : {ns : List Node} (made : Made) (k : ℕ) → AreMade ns made → (o : Option Numbered) → made k ≡ o → IsSome o → first_in ns k ≡ None
fits_in made k are None e some = absurd (true≢false (sym some))
fits_in made k are (Some f) e some = (are k f e).fits

linear_by : (ns : List Node) (ks : List ℕ) → AllByRecursion (λ k. k < length ns) ks → are_linear (terms_at (term_in ns) ks) ≡ true → AreLinear ns ks
linear_by ns [] within linear = tt
linear_by ns (k ∷ ks) within linear =
    let both = and_parts (is_linear (term_in ns k)) (are_linear (terms_at (term_in ns) ks)) linear in
    ((within.0, both.0), linear_by ns ks within.1 both.1)

no_first : {A : Type 0} (w : Operation) → None ≡ Some w → A
no_first w e = absurd cc

inside : (f g : Numbered) → Some f ≡ Some g → f ≡ g
inside f g e = cc

-- the stack from its top down
stack : (ss : List Step) (id : ℕ) (ks : List ℕ) → reverse (ss ++ Leave id ∷ entries ks) ≡ map Enter ks ++ Leave id ∷ reverse ss
stack ss id ks =
    reverse-append ss (Leave id ∷ entries ks)
    ∙ ap (λ (l : List Step). l ++ reverse ss) (reverse-append (Leave id ∷ []) (entries ks) ∙ ap (λ (l : List Step). l ++ Leave id ∷ []) (ap reverse (turned ks) ∙ reverse-reverse (map Enter ks)))
    ∙ append_assoc (map Enter ks) (Leave id ∷ []) (reverse ss)

-- the step on the top of the stack
pub popped : (ns : List Node) (root : ℕ) (made : Made) (items rest : List Step) (s t : Step) → items ≡ rest ++ s ∷ [] → s ≡ t → Ready ns root made (reverse items) → Ready ns root made (t ∷ reverse rest)
popped ns root made items rest s t stack same h =
    subst (Ready ns root made) (reverse-append rest (t ∷ [])) (subst (λ (l : List Step). Ready ns root made (reverse l)) (stack ∙ ap (λ (x : Step). rest ++ x ∷ []) same) h)

module _ (ns : List Node) (root : ℕ) (rest : List Step) where
  kids_ready : (ks : List ℕ) (made : Made) → AreMade ns made → AreLinear ns ks → AreLeading ns root ks
      → ((later : Made) → Later ns made later → HaveForms later ks → Ready ns root later rest) → Ready ns root made (map Enter ks ++ rest)
  kids_ready [] made are linear leading next = next made (later_itself ns made are) (All-nil (λ id. IsSome (made id)))
  kids_ready (k ∷ ks) made are linear leading next =
      let ops = (form_of (number_in ns) (term_in ns k)).operations in
      let others = (forms_of (number_in ns) (terms_at (term_in ns) ks)).operations in (
        record { within = linear.0.0; linear = linear.0.1; stop = λ w e. leading w (first_wide-some ops others w e) },
        tt,
        λ later l some. kids_ready ks later l.are_made linear.1
            (λ w e. leading w (first_wide-none ops others (fits_in later k l.are_made (later k) refl some) ∙ e))
            (λ last m have. next last (later_more ns made later last l m) (All-cons (λ id. IsSome (last id)) k ks (m.stays k some) have)),
      )

module _ (law : TermOfNode) (ns : List Node) (table : IsTable ns) (root : ℕ) where
  are_linear_at : (ks : List ℕ) → All (λ k. k < length ns) ks → are_linear (terms_at (term_in ns) ks) ≡ true → AreLinear ns ks
  are_linear_at ks within linear = linear_by ns ks (recursion_from_All (λ k. k < length ns) ks within) linear

  -- arguments that are opened
  opened_linear : (id : ℕ) (n : Node) → slice_get ns id ≡ Some n → All (λ k. k < id) n.kids → Leads ns root id → AreLinear ns n.kids
  opened_linear id n at before leads =
      let parts = terms_at (term_in ns) n.kids in
      let whole : is_linear (apply n.head parts) ≡ true = sym (ap is_linear (law ns table id n at)) ∙ leads.linear in
      are_linear_at n.kids (λ k d inside. let below = before k d inside in let in_table = leads.within in omega arith)
      ((and_parts (is_linear_node n.head (constant_values parts)) (are_linear parts) whole).1)

  opened_leading : (id : ℕ) (n : Node) → slice_get ns id ≡ Some n → (o : Opening) → opening_in (term_in ns id) ≡ Some o → Leads ns root id → AreLeading ns root n.kids
  opened_leading id n at o is leads w e =
      let number = number_in ns in
      let forms = forms_of number (terms_at (term_in ns) n.kids) in
      let own = λ (fs : List spec.Form). opened_by number o (constants_at ns n.kids) fs (unit_form (term_in ns id)) in
      leads.stop w (ap (λ c. first_wide c.operations) (sym (form_is law ns table id n at o is)) ∙ first_wide-some forms.operations (own forms.result).operations w e)

  kids_by : (id : ℕ) (n : Node) → slice_get ns id ≡ Some n → (o : Option Opening) → opening_in (term_in ns id) ≡ o → Leads ns root id → AreLinear ns (opened_kids ns id) × AreLeading ns root (opened_kids ns id)
  kids_by id n at None is leads =
      let none : opened_kids ns id ≡ [] = ap (λ x. if is_some x then elim (slice_get ns id) [ Some m ↦ m.kids | None ↦ [] ] else []) is in
      subst (λ (ks : List ℕ). AreLinear ns ks × AreLeading ns root ks) (sym none) (tt, λ w e. no_first w (sym no_operation ∙ e))
  kids_by id n at (Some o) is leads =
      subst (λ (ks : List ℕ). AreLinear ns ks × AreLeading ns root ks) (sym (kids_are law ns table id n at o is))
      (opened_linear id n at (table.before id n at) leads, opened_leading id n at o is leads)

  -- the term is left when its arguments are done
  pub entered : (made : Made) → AreMade ns made → (id : ℕ) (n : Node) → slice_get ns id ≡ Some n → (ss : List Step) → Ready ns root made (Enter id ∷ reverse ss)
      → Ready ns root made (reverse (ss ++ steps_of ns id))
  entered made are id n at ss h =
      let kids = opened_kids ns id in
      let known = kids_by id n at (opening_in (term_in ns id)) refl h.0 in
      subst (Ready ns root made) (sym (stack ss id kids))
      (kids_ready ns root (Leave id ∷ reverse ss) kids made are known.0 known.1
      (λ later l have. (h.0, have, λ last m some. h.2 last (later_more ns made later last l m) some)))

-- ---- The other steps

module _ (ns : List Node) (root : ℕ) where
  -- it is made now
  module _ (old new : Made) (id : ℕ) (f : Numbered) (put : (j : ℕ) → new j ≡ cond (id == j) (Some f) (old j)) (formed : IsFormed ns (form_of (number_in ns) (term_in ns id)) (Ok f)) (are : AreMade ns old) where
    is : IsFormOf ns id f
    is = record { form = formed.0.result; fits = formed.0.fits; units = formed.1 }

    made_more : AreMade ns new
    made_more j g at =
        elim (eqb_tells id j) [
          | inl e ↦
              let same : Some f ≡ Some g = sym (put j ∙ ap (λ b. cond b (Some f) (old j)) e.0) ∙ at in
              subst (λ (h : Numbered). IsFormOf ns j h) (inside f g same) (subst (λ (k : ℕ). IsFormOf ns k f) e.1 is)
          | inr e ↦ are j g (sym (put j ∙ ap (λ b. cond b (Some f) (old j)) e.0) ∙ at)
        ]

    some_by : (j : ℕ) (b : Bool) → new j ≡ cond b (Some f) (old j) → IsSome (old j) → IsSome (new j)
    some_by j true e some = subst (λ o. IsSome o) (sym e) refl
    some_by j false e some = subst (λ o. IsSome o) (sym e) some

    left : (rest : List Step) → Ready ns root old (Leave id ∷ rest) → Ready ns root new rest
    left rest h =
        h.2 new (record { stays = λ j some. some_by j (id == j) (put j) some; are_made = made_more })
        (elim (eqb_tells id id) [ inl e ↦ subst (λ o. IsSome o) (sym (put id ∙ ap (λ b. cond b (Some f) (old id)) e.0)) refl | inr e ↦ absurd (e.1 refl) ])

    pub left_now : (items rest : List Step) (s : Step) → items ≡ rest ++ s ∷ [] → s ≡ Leave id → Ready ns root old (reverse items) → AreMade ns new × Ready ns root new (reverse rest)
    left_now items rest s stack same h = (made_more, left (reverse rest) (popped ns root old items rest s (Leave id) stack same h))
