-- The texts of models.
use Rattle.std.proofs.Common.{◌≡◌, List, [], ◌∷◌, ◌++◌, map, flat_map, refl, ap}
use Rattle.nz_script.specs.replies.Reply.{binding_text}
use Rattle.nz_reply.specs.declared.reply.Binding.{Binding}
use Rattle.nz_reply.specs.Bindings.{binding_of}

pub bindings_text : (bs : List Binding) → flat_map binding_text (map binding_of bs) ≡ flat_map (λ (b : Binding). binding_text (binding_of b)) bs
bindings_text [] = refl
bindings_text (b ∷ bs) = ap (λ l. binding_text (binding_of b) ++ l) (bindings_text bs)
