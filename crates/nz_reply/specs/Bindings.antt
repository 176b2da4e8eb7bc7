-- What a binding of the code is.
use Rattle.nz_spec.specs.terms.Model as models
use Rattle.nz_reply.specs.declared.reply.Binding.{Binding}
use Rattle.nz_term.specs.Constants.{constant_of}
use Rattle.nz_term.specs.Values.{value_of}

abbrev pub binding_of : Binding → models.Binding
binding_of b = record { constant = constant_of b.constant; value = value_of b.value }
