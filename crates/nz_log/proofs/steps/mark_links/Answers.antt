-- One more mark keeps what was marked, and is of a link.
use Rattle.std.proofs.Common.{◌≡◌, ℕ, ◌+◌, ◌<◌, true, length, get_or, sym, subst, ◌∙◌, arith}
use Rattle.std.specs.Prelude.{slice_set}
use Rattle.std.proofs.Math.ListN.{length-set}
use Rattle.nz_log.specs.declared.origins.Link.{Link}
use Rattle.nz_log.specs.Spelling.{is_marked}
use Rattle.nz_log.proofs.MarkUpdates.{links_more, set_keeps, set_passes}
use Rattle.nz_log.proofs.steps.mark_links.Goals as goal

pub loop-link-preserved : goal.loop-link-preserved
loop-link-preserved c =
    let ks = c.args.links.now in
    let i = c.loop-link.link-index in
    let marks = c.loop-link.marks.items in
    let k = c.link-item.result in
    let j = k.clause in
    let read : k ≡ get_or ks i k = c.link-item.is in
    let within : i < length ks = omega arith in
    let there : (get_or ks i k).clause < length marks = omega (arith, c.requires.within i k within, c.loop-link.invariant.long) in
    record {
      long = length-set marks j _ ∙ c.loop-link.invariant.long;
      kept = λ n e. set_keeps marks j n (c.loop-link.invariant.kept n e);
      marked = subst (λ (m : Link). (n : ℕ) (e : Link) → n < i + 1 → is_marked (slice_set marks m.clause true) (get_or ks n e).clause ≡ true) (sym read)
          (links_more ks marks i k within there c.loop-link.invariant.marked);
      only = λ test old all. set_passes test marks j (subst (λ (m : Link). test m.clause ≡ true) (sym read) (all i k within)) (c.loop-link.invariant.only test old all);
    }
