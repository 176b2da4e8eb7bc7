use Rattle.std.proofs.Common.{◌∙◌, ap, sym, arith}
use Rattle.std.proofs.lemmas.List.{length-take-le}
use Rattle.nz_spec.specs.outside.Outside.{MemoryInput}
use Rattle.nz_base.proofs.Bytes.{given_and_left}
use Rattle.nz_base.proofs.in_memory.PlainSourceSource.read.Goals as goal

pub returns-clause-bytes : goal.returns-clause-bytes
returns-clause-bytes c =
    let given = rw c.deref.ensures.value at c.copy_from_slice.ensures.after in
    let count = c.copy_from_slice.ensures.len ∙ length-take-le c.min-count.result c.args.buf.now (omega arith) in
    sym (given_and_left c.self.inside.bytes.items c.copy_from_slice.new.self _ c.self.inside.at c.min-count.result count given
    ∙ ap (λ (v : MemoryInput). v.left) c.self.view_is)
