use Rattle.std.proofs.Common.{ℕ, List, ◌++◌, codes, ap, sym}
use Rattle.nz_script.specs.replies.Reply.{sort_text, symbol_text, value_text}
use Rattle.nz_reply.specs.Bindings.{binding_of}
use Rattle.nz_reply.proofs.TextPieces.{written_as}
use Rattle.nz_reply.proofs.text.BindingSpell.write.Goals as goal

pub returns : goal.returns
returns g c =
    let b = binding_of c.args.self.now in
    record {
      written =
          written_as
          (ap (λ (name : List ℕ). codes "(define-fun " ++ symbol_text name ++ codes " () " ++ sort_text b.constant.sort ++ codes " " ++ value_text b.constant.sort b.value ++ codes ")\n") (sym c.as_bytes-name.ensures.bytes))
          c.write.ensures.written;
    }
