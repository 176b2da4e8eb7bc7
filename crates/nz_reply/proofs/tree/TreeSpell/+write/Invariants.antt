use Rattle.nz_sexpr.specs.View.{view}
use Rattle.nz_script.specs.replies.Reply.{tree_text}
use Rattle.nz_sexpr.specs.Sizes.{tree_size}
use Rattle.nz_reply.proofs.Spaces.{trees_left}
use Rattle.nz_reply.proofs.TextPieces.{HasWrittenTo}
use Rattle.nz_reply.proofs.tree.TreeSpell.+write.Given as goal

abbrev pub decreases-write : goal.decreases-write
decreases-write g l = tree_size (view l.self.now)

abbrev pub invariant-loop-index : goal.invariant-loop-index
invariant-loop-index g l = HasWrittenTo g.K.Sink.held g.K.Sink.faults l.fn.sink l.sink (tree_text (view l.self)) (trees_left l.trees l.index)
