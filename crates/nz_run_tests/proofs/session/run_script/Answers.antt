use Rattle.std.proofs.Common.{refl, []}
use Rattle.nz_run_tests.proofs.session.run_script.Goals as goal

-- the session has read the script
pub finish-ended-requires : goal.finish-ended-requires
finish-ended-requires g c = (c.args.units, c.args.script.now, c.in-Going.ensures.going refl c.args.units [] c.in_ok-session.ensures.serves)
