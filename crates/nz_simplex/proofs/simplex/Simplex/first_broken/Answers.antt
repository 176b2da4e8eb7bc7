-- The first basic form that breaks a bound is the least; where there is none, the point is within all bounds.
use Rattle.std.proofs.Common.{ℕ, ◌<◌, List, length, Option, Some, None, sym, ap, ◌∙◌, subst}
use Rattle.std.specs.Prelude.{All, IfNone, not}
use Rattle.std.proofs.lemmas.List.Elements.{All-from_recursion}
use Rattle.std.proofs.lemmas.Option.{IfSome_then}
use Rattle.nz_simplex.specs.State.{nonbasic_in}
use Rattle.nz_simplex.specs.Stored.{basic_numbers, first_passing, is_breaking}
use Rattle.nz_simplex.proofs.BrokenBounds.{basic_told, feasible_told, past_told}
use Rattle.nz_simplex.proofs.Pointed.{numbers_below}
use Rattle.nz_simplex.proofs.simplex.Simplex.first_broken.Goals as goal

pub first_breaking-requires : goal.first_breaking-requires
first_breaking-requires g c =
    let s = c.args.self.now in
    record {
      listed =
          subst (λ (ks : List ℕ). All (λ k. k < length s.forms) ks) (sym c.basis.ensures.basis)
          (All-from_recursion (λ k. k < length s.forms) (basic_numbers s) (numbers_below (length s.forms) (λ k. not (nonbasic_in s k))));
      valued = c.requires.valued;
    }

pub returns-clause-known : goal.returns-clause-known
returns-clause-known g c =
    let s = c.args.self.now in
    IfSome_then c.first_breaking.result c.first_breaking.ensures.found
    (λ b h. (basic_told s b.var (sym (ap (first_passing (is_breaking s)) c.basis.ensures.basis) ∙ h.0)).0)

pub returns-clause-basic : goal.returns-clause-basic
returns-clause-basic g c =
    let s = c.args.self.now in
    IfSome_then c.first_breaking.result c.first_breaking.ensures.found
    (λ b h. (basic_told s b.var (sym (ap (first_passing (is_breaking s)) c.basis.ensures.basis) ∙ h.0)).1)

pub returns-clause-stands : goal.returns-clause-stands
returns-clause-stands g c = IfSome_then c.first_breaking.result c.first_breaking.ensures.found (λ b h. h.1.stands)

pub returns-clause-broken : goal.returns-clause-broken
returns-clause-broken g c =
    let s = c.args.self.now in
    IfSome_then c.first_breaking.result c.first_breaking.ensures.found
    (λ b h ns over.
    past_told s c.known_state.ensures.sound c.positions_have_values.ensures.values c.infinitesimals_move.ensures.moves c.requires.valued ns over g.S.Coordinate.stands_for b.var b.side b.limit
    (sym (ap (first_passing (is_breaking s)) c.basis.ensures.basis) ∙ h.0) h.1)

pub returns-clause-none : goal.returns-clause-none
returns-clause-none g c =
    let s = c.args.self.now in
    none_then c.first_breaking.result c.first_breaking.ensures.none
    (λ none ns over.
    feasible_told s c.known_state.ensures.sound c.positions_have_values.ensures.values c.infinitesimals_move.ensures.moves c.requires.valued ns over
    (sym (ap (first_passing (is_breaking s)) c.basis.ensures.basis) ∙ none))
  where
    none_then : {X : Type 0} {P Q : Type 0} (o : Option X) → IfNone o P → (P → Q) → IfNone o Q
    none_then None h f = f h
    none_then (Some x) h f = tt
