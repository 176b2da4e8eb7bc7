use Rattle.nz_script.proofs.Transcripts as laws
use Rattle.nz_script.proofs.transcript.transcript_grows.Goals as goal

pub returns : goal.returns
returns c = record { grows = laws.transcript_grows }
