-- Texts that are written one after another.
use Rattle.std.specs.Prelude.{ℕ, List, flat_map}
use Rattle.std.specs.Borrow.{Bor}

abbrev pub parts_text : List (Bor (List ℕ)) → List ℕ
parts_text parts = flat_map (λ (p : Bor (List ℕ)). p.now) parts
