-- Which atoms are the same, as they are written, and what a hash is fed of them.
use Rattle.std.specs.Prelude.{Bool, true, false, ◌&&◌, ◌==◌, List, [], ◌∷◌, ◌++◌, flat_map}
use Rattle.std.specs.Hash as fed
use Rattle.nz_spec.specs.terms.Same.{are_same_fraction}
use Rattle.nz_spec.specs.terms.Term.{are_same_sort}
use Rattle.nz_term.specs.Constants.{sort_of}
use Rattle.nz_frac.specs.Hashed.{hashed}
use Rattle.nz_lin.specs.declared.bound.Bound.{Bound}
use Rattle.nz_lin.specs.declared.form.Part.{Part}
use Rattle.nz_log.specs.declared.atoms.Atom.{Atom}
use Rattle.nz_log.specs.declared.atoms.Atom.TheVariants.{Term, AtMost}
use Rattle.nz_spec.specs.clauses.Literal.{are_same_sign}

-- ---- Which are the same

abbrev pub are_same_part : Part → Part → Bool
are_same_part p q = (p.unit == q.unit) && (are_same_sort (sort_of p.sort) (sort_of q.sort) && are_same_fraction p.coefficient q.coefficient)

abbrev pub are_same_units : List Part → List Part → Bool
are_same_units [] [] = true
are_same_units [] (q ∷ qs) = false
are_same_units (p ∷ ps) [] = false
are_same_units (p ∷ ps) (q ∷ qs) = are_same_part p q && are_same_units ps qs

abbrev pub are_same_bound : Bound → Bound → Bool
are_same_bound b c =
    are_same_sign b.strict c.strict && (are_same_fraction b.sides.offset c.sides.offset && are_same_units b.sides.parts c.sides.parts)

abbrev pub are_same_atom : Atom → Atom → Bool
are_same_atom (Term t) (Term u) = t == u
are_same_atom (AtMost b) (AtMost c) = are_same_bound b c
are_same_atom a b = false

-- ---- What a hash is fed

abbrev pub fed_part : Part → fed.HashWrites
fed_part p = fed.usize p.unit ++ hashed p.coefficient

abbrev pub fed_bound : Bound → fed.HashWrites
fed_bound b = hashed b.sides.offset ++ flat_map fed_part b.sides.parts

abbrev pub fed_atom : Atom → fed.HashWrites
fed_atom (Term t) = fed.u8 0 ++ fed.usize t
fed_atom (AtMost b) = fed.u8 1 ++ fed_bound b
