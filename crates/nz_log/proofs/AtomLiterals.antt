-- Literals whose atoms join the others.
use Rattle.std.proofs.Common.{◌≡◌, ℕ, ◌<◌, ◌+◌, Bool, true, false, List, [], ◌∷◌, ◌++◌, length, map, take, get_or, Option, Some, Result, Ok, Err, refl, sym, ap, subst, ◌∙◌, add-one}
use Rattle.std.proofs.Math.Seq.{take-suc}
use Rattle.std.specs.Prelude.{slice_get, IfOk, OnOk}
use Rattle.std.specs.List.{AllByRecursion}
use Rattle.nz_lists.proofs.Elements.{AllByRecursion-append}
use Rattle.nz_fractions.specs.Fraction.{Fraction, neg_ℚ}
use Rattle.nz_spec.specs.terms.Form as form
use Rattle.nz_spec.specs.terms.Form.{negated_part}
use Rattle.nz_spec.specs.clauses.Literal.{Literal, is_at_most, is_below, negation_of}
use Rattle.nz_spec.specs.terms.Table.{Node}
use Rattle.nz_lin.specs.declared.bound.Bound.{Bound}
use Rattle.nz_lin.specs.Bounds.{HasUnits, bounded, literal_over}
use Rattle.nz_lin.specs.Forms.{parts_over}
use Rattle.nz_log.specs.declared.atoms.Atom.{Atom}
use Rattle.nz_log.specs.declared.atoms.Atom.TheVariants.{Term, AtMost}
use Rattle.nz_log.specs.declared.lits.Lit.{Lit}
use Rattle.nz_log.specs.declared.origins.Stored.{Stored}
use Rattle.nz_term.specs.declared.term_lits.TermLit.{TermLit}
use Rattle.nz_log.specs.Atoms.{AreAtoms, HasTerm, IsLitIn, Stay, lit_of, literal_in, lits_of, term_place}
use Rattle.nz_log.specs.Logs.{JoinsAtoms}
use Rattle.nz_log.specs.Stored.{log_of}
use Rattle.nz_log.proofs.LiteralAgreement.{negated_twice}
use Rattle.nz_log.proofs.AtomTables.{place_is, place_stays, place_there}
use Rattle.nz_log.proofs.LiteralPreservation.{literal_at}

-- ---- Of the log

pub log_joins : (clauses : List (Option Stored)) (told : List (Option ℕ)) (old new : List Atom) → Stay old new → JoinsAtoms (log_of clauses told old) (log_of clauses told new)
log_joins clauses told old new stay = record { entries = refl; told = refl; atoms = stay }

pub numbered : {E : Type 0} (atoms : List Atom) (t : ℕ) (r : Result ℕ E) → AreAtoms atoms → IfOk r (λ id. slice_get atoms id ≡ Some (Term t)) → IfOk r (λ id. id ≡ term_place atoms t)
numbered atoms t (Ok id) are at = place_is atoms id t are at
numbered atoms t (Err e) are at = at

pub term_there : {E : Type 0} (atoms : List Atom) (t : ℕ) (r : Result ℕ E) → IfOk r (λ id. slice_get atoms id ≡ Some (Term t)) → OnOk r (HasTerm atoms t)
term_there atoms t (Ok id) at = place_there atoms id t at
term_there atoms t (Err e) at = at

-- ---- Literals on terms

lits_stay : (old new : List Atom) → Stay old new → AreAtoms new → (c : List TermLit) → AllByRecursion (λ (l : TermLit). HasTerm old l.term) c
    → (lits_of new c ≡ lits_of old c) × AllByRecursion (λ (l : TermLit). HasTerm new l.term) c
lits_stay old new stay are [] h = (refl, tt)
lits_stay old new stay are (l ∷ ls) h =
    let here = place_stays old new l.term stay are h.0 in
    let rest = lits_stay old new stay are ls h.1 in
    (λ i. record { atom = here.1 i; sign = l.sign } ∷ rest.0 i, (here.0, rest.1))

map-push : (atoms : List Atom) (c : List TermLit) (l : TermLit) → lits_of atoms (c ++ l ∷ []) ≡ lits_of atoms c ++ lit_of atoms l ∷ []
map-push atoms [] l = refl
map-push atoms (k ∷ ks) l = ap (λ ms. lit_of atoms k ∷ ms) (map-push atoms ks l)

-- one more
pub lits_more : (old new : List Atom) → Stay old new → AreAtoms new → (c : List TermLit) (i : ℕ) (d : TermLit) → i < length c
    → AllByRecursion (λ (l : TermLit). HasTerm old l.term) (take i c) → HasTerm new (get_or c i d).term → (ls next : List Lit) → ls ≡ lits_of old (take i c)
    → next ≡ ls ++ lit_of new (get_or c i d) ∷ []
    → (next ≡ lits_of new (take (i + 1) c)) × AllByRecursion (λ (l : TermLit). HasTerm new l.term) (take (i + 1) c)
lits_more old new stay are c i d within there own ls next so_far is =
    let l = get_or c i d in
    let kept = lits_stay old new stay are (take i c) there in
    let longer : take (i + 1) c ≡ take i c ++ l ∷ [] = ap (λ n. take n c) (add-one i) ∙ take-suc c i d within in (
      is ∙ ap (λ ms. ms ++ lit_of new l ∷ []) (so_far ∙ sym kept.0) ∙ sym (map-push new (take i c) l) ∙ ap (lits_of new) (sym longer),
      subst (AllByRecursion (λ (k : TermLit). HasTerm new k.term)) (sym longer) (AllByRecursion-append (λ (k : TermLit). HasTerm new k.term) (take i c) (l ∷ []) kept.1 (own, tt)),
    )

-- ---- Literals of bounds

-- what is below a limit isn't at most it
at_most_by : (strict : Bool) (ps qs : List form.Part) (b c : Fraction) → bounded strict ps b ≡ is_at_most qs c → strict ≡ false
at_most_by true ps qs b c e = let both : is_below ps b ≡ is_at_most qs c = e in absurd cc
at_most_by false ps qs b c e = refl

negated_strict : (b : Bound) (l : Literal) → b.strict ≡ true → l ≡ negation_of (literal_over [] b) → (ps : List form.Part) × (c : Fraction) × (l ≡ is_at_most ps c)
negated_strict b l strict is =
    let units = parts_over [] b.sides.parts in
    (map negated_part units, neg_ℚ b.sides.offset, is ∙ ap (λ (s : Bool). negation_of (bounded s units b.sides.offset)) strict)

-- the negation of a strict bound isn't strict
pub other_normal : (b o : Bound) → b.strict ≡ true → ((ns : List Node) → literal_over ns o ≡ negation_of (literal_over ns b)) → o.strict ≡ false
other_normal b o strict is =
    let shown = negated_strict b (literal_over [] o) strict (is []) in
    at_most_by o.strict (parts_over [] o.sides.parts) shown.0 o.sides.offset shown.1 shown.2

-- what the literal on the atom of the negation says
pub other_said : (atoms : List Atom) (id : ℕ) (b o : Bound) → slice_get atoms id ≡ Some (AtMost o) → ((ns : List Node) → literal_over ns o ≡ negation_of (literal_over ns b))
    → (ns : List Node) → literal_in ns atoms (record { atom = id; sign = false }) ≡ literal_over ns b
other_said atoms id b o at is ns =
    literal_at ns atoms (record { atom = id; sign = false }) (AtMost o) at ∙ ap negation_of (is ns) ∙ negated_twice (literal_over ns b)

pub bound_within : (atoms : List Atom) (id : ℕ) (sign : Bool) (b : Bound) → slice_get atoms id ≡ Some (AtMost b) → (ns : List Node) → HasUnits ns b
    → IsLitIn ns atoms (record { atom = id; sign = sign })
bound_within atoms id sign b at ns units = record { atom = AtMost b; at = at; within = units }
