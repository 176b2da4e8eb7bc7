use Rattle.std.proofs.Common.{◌≡◌, ℕ, ◌<◌, Bool, true, length, get_or}
use Rattle.std.specs.Prelude.{All}
use Rattle.nz_log.specs.declared.origins.Link.{Link}
use Rattle.nz_log.specs.Spelling.{IsMoreMarked, PassMarked, is_marked}
use Rattle.nz_log.proofs.steps.mark_links.Given as goal

-- the clauses of the links so far are marked
abbrev pub invariant-loop-link : goal.invariant-loop-link
invariant-loop-link l =
    record {
      long : length l.marks.items ≡ length l.fn.marks.items;
      kept : IsMoreMarked l.fn.marks.items l.marks.items;
      marked : (k : ℕ) (d : Link) → k < l.link-index → is_marked l.marks.items (get_or l.links k d).clause ≡ true;
      only : (test : ℕ → Bool) → PassMarked test l.fn.marks.items → All (λ (k : Link). test k.clause ≡ true) l.links → PassMarked test l.marks.items;
    }
