-- How far a run has come.
use Rattle.std.specs.Prelude.{◌≡◌, ℕ, ◌≤◌, ◌*◌, Bool, false, List, length, Option}
use Rattle.std.specs.Io.KnownBytes.{Appends, Consumes}
use Rattle.nz_spec.specs.terms.Table.{Node}
use Rattle.nz_spec.specs.terms.Term.{Term}
use Rattle.nz_script.specs.run.Transcript.{texts_of}
use Rattle.nz_script.specs.run.Run.{buffer_size}
use Rattle.nz_search.specs.Levels.{Level}
use Rattle.nz_session.specs.declared.session.Session.{Session}
use Rattle.nz_session.specs.Serve.{Serves, kept_by}

-- So many reads were made, each of a byte or more; the session has answered what is complete in the bytes read, and its
-- replies were written.
pub record IsReading {E : Type 0} (levels : E → List Level) (table : E → List Node) (begins : E → List Term → Type 0) (limit : ℕ) (session : Session E) (first left held now : Option (List ℕ)) (count : ℕ) : Type 0 where
  pub read : List ℕ
  pub taken : Consumes first left read
  pub long : count ≤ length read
  pub short : length read ≤ buffer_size * count
  pub serves : Serves levels table begins limit session read
  pub written : Appends held now (texts_of (kept_by session))

-- The source hasn't ended, and whether it was read late is as it was first.
pub record IsInTime (ended late first : Bool) : Type 0 where
  pub unended : ended ≡ false
  pub as_first : late ≡ first
