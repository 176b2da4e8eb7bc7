-- Steps that are put one behind another.
use Rattle.std.proofs.Common.{◌≡◌, ℕ, suc, ◌<◌, ◌+◌, List, [], ◌∷◌, ◌++◌, length, drop, get_or, refl, sym, ap, ◌∙◌, append_assoc, arith}
use Rattle.std.specs.Prelude.{slice_index}
use Rattle.std.proofs.lemmas.List.{length-append, map-append}
use Rattle.nz_lists.proofs.Places.{drop_read}
use Rattle.nz_spec.specs.clauses.Steps as spec
use Rattle.nz_spec.specs.clauses.Steps.{resolve_step}
use Rattle.nz_spec.specs.terms.Table.{Node}
use Rattle.nz_log.specs.declared.atoms.Atom.{Atom}
use Rattle.nz_log.specs.declared.origins.Link.{Link}
use Rattle.nz_log.specs.declared.steps.Step.{Step}
use Rattle.nz_log.specs.Atoms.{literal_in}
use Rattle.nz_log.specs.Spelling.{chain_place, chain_steps, step_of, steps_of}

pub steps_long : (ns : List Node) (ss : List Step) → length ss ≡ length (steps_of ns ss)
steps_long ns [] = refl
steps_long ns (s ∷ ss) = ap suc (steps_long ns ss)

-- one step
pub one_pushed : (steps next : List Step) (r : Step) (said : List Node → spec.Step) → next ≡ steps ++ r ∷ [] → ((ns : List Node) → step_of ns r ≡ said ns)
    → (ns : List Node) → steps_of ns next ≡ steps_of ns steps ++ said ns ∷ []
one_pushed steps next r said is says ns =
    ap (steps_of ns) is ∙ map-append (step_of ns) steps (r ∷ []) ∙ ap (λ s. steps_of ns steps ++ s ∷ []) (says ns)

-- what is put behind a link's step: there is one step more, and the link's own step has this number
module _ (steps next : List Step) (r : Step) (n : ℕ) (is : next ≡ steps ++ r ∷ []) (here : n ≡ length steps) (current : ℕ) (ks : List Link) (i : ℕ) (d : Link)
    (within : i < length ks) (read : d ≡ get_or ks i d) where
  one_longer : length next ≡ suc (length steps)
  one_longer = ap length is ∙ length-append steps (r ∷ []) ∙ omega arith

  pub place_pushed : chain_place (length next) n (drop (i + 1) ks) ≡ chain_place (length steps) current (drop i ks)
  place_pushed =
      ap (λ m. chain_place m n (drop (i + 1) ks)) one_longer
      ∙ ap (λ m. chain_place (suc (length steps)) m (drop (i + 1) ks)) here
      ∙ ap (λ (ls : List Link). chain_place (length steps) current ls) (sym (drop_read ks i d within read))

  -- the step of the link, and then those of the links behind it
  pub chain_pushed : (atoms : List Atom) (places : List ℕ) → ((ns : List Node) → step_of ns r ≡ resolve_step current (slice_index places d.clause) (literal_in ns atoms d.literal))
      → (ns : List Node) → steps_of ns next ++ chain_steps ns atoms places (length next) n (drop (i + 1) ks)
      ≡ steps_of ns steps ++ chain_steps ns atoms places (length steps) current (drop i ks)
  chain_pushed atoms places says ns =
      let rest = drop (i + 1) ks in
      ap (λ m. steps_of ns next ++ chain_steps ns atoms places m n rest) one_longer
      ∙ ap (λ m. steps_of ns next ++ chain_steps ns atoms places (suc (length steps)) m rest) here
      ∙ ap (λ ss. ss ++ chain_steps ns atoms places (suc (length steps)) (length steps) rest)
      (one_pushed steps next r (λ ms. resolve_step current (slice_index places d.clause) (literal_in ms atoms d.literal)) is says ns)
      ∙ append_assoc (steps_of ns steps) (resolve_step current (slice_index places d.clause) (literal_in ns atoms d.literal) ∷ [])
      (chain_steps ns atoms places (suc (length steps)) (length steps) rest)
      ∙ ap (λ (ls : List Link). steps_of ns steps ++ chain_steps ns atoms places (length steps) current ls) (sym (drop_read ks i d within read))
