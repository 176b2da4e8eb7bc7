-- What a reason of the code is.
use Rattle.nz_script.specs.live.Live as live_state
use Rattle.nz_frac.specs.Operations.{operation_of}
use Rattle.nz_reply.specs.declared.reply.Reason.{Reason}
use Rattle.nz_reply.specs.declared.reply.Reason.TheVariants.{UnitsSpent, Wide}

abbrev pub reason_of : Reason → live_state.Reason
reason_of (UnitsSpent units) = live_state.units_spent units
reason_of (Wide wide) = live_state.number_left (operation_of wide.value)
