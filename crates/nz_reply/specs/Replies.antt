-- What replies and their causes are.
use Rattle.std.specs.Prelude.{◌≡◌, List, ◌++◌, map, ⊤}
use Rattle.std.specs.List.{AllByRecursion}
use Rattle.nz_spec.specs.search.Notes as notes
use Rattle.nz_script.specs.replies.Reply as spec
use Rattle.nz_script.specs.text.Text as script
use Rattle.nz_script.specs.run.Transcript as transcript
use Rattle.nz_spec.specs.terms.Table.{Node}
use Rattle.nz_spec.specs.search.Work.{WorkList}
use Rattle.nz_base.specs.Errors.{error_of}
use Rattle.nz_sexpr.specs.Packed.{packed_heard_view}
use Rattle.nz_reply.specs.Infos.{info_of}
use Rattle.nz_search.specs.Notes.{noted_line, AreNotedWithin}
use Rattle.nz_place.specs.Places.{IsSiteWithin, place_of}
use Rattle.nz_reply.specs.Reasons.{reason_of}
use Rattle.nz_reply.specs.Values.{asked_trees, echoed_in, with_shown}
use Rattle.nz_reply.specs.declared.reply.Reply.{Reply}
use Rattle.nz_reply.specs.declared.reply.Reply.TheVariants as reply
use Rattle.nz_reply.specs.declared.reply.Cause.{Cause}
use Rattle.nz_reply.specs.declared.reply.Cause.TheVariants as cause
use Rattle.nz_reply.specs.declared.reply.Kept.{Kept}
use Rattle.nz_reply.specs.declared.reply.Stopped.{Stopped}
use Rattle.nz_reply.specs.declared.reply.WorkDone.{WorkDone}

-- What a reply to this thing heard is: the terms whose values it tells, and the text that it repeats, stand in the command.
abbrev pub reply_of : script.What → Reply → spec.Reply
reply_of what reply.Quiet = spec.quiet
reply_of what reply.Success = spec.success
reply_of what (reply.Sat bindings) = spec.sat bindings.value
reply_of what reply.Unsat = spec.unsat
reply_of what (reply.Unknown reason) = spec.unknown (reason_of reason)
reply_of what (reply.Model bindings) = spec.model bindings.value
reply_of what (reply.Values shows) = spec.values (with_shown (asked_trees what) shows)
reply_of what (reply.Info info) = spec.info (info_of info)
reply_of what (reply.Levels count) = spec.levels count
reply_of what (reply.Reason reason) = spec.reason (reason_of reason)
reply_of what reply.Echo = spec.echoed (echoed_in what)
reply_of what reply.Unsupported = spec.unsupported
reply_of what (reply.Error e) = spec.error (error_of e)

-- the work of a check
abbrev pub work_of : List Node → WorkDone → WorkList notes.Note
work_of ns d = record { lines = map (noted_line ns) d.work; limit = d.limit }

-- what a cause is, where its numbers are those of a table
abbrev pub cause_of : List Node → Cause → spec.Cause
cause_of ns cause.Plain = spec.plain
cause_of ns (cause.Spent done) = spec.spent (work_of ns done.value)
cause_of ns (cause.Stopped stopped) = spec.stopped (place_of ns stopped.value.place) (work_of ns stopped.value.done)

abbrev pub kept_of : List Node → Kept → transcript.Kept
kept_of ns k = let heard = packed_heard_view k.heard in record { heard = heard; reply = reply_of heard.what k.reply; cause = cause_of ns k.cause }

abbrev pub all_kept : List Node → List Kept → List transcript.Kept
all_kept ns ks = map (kept_of ns) ks

-- ---- Tables that grow

-- the place where a check ended, and its work, name terms of the table alone
pub record IsStoppedWithin (ns : List Node) (s : Stopped) : Type 0 where
  pub site : IsSiteWithin ns s.place.site
  pub noted : AreNotedWithin ns s.done.work

-- a cause names terms of the table alone
abbrev pub IsCauseWithin : List Node → Cause → Type 0
IsCauseWithin ns cause.Plain = ⊤
IsCauseWithin ns (cause.Spent done) = AreNotedWithin ns done.value.work
IsCauseWithin ns (cause.Stopped stopped) = IsStoppedWithin ns stopped.value

-- so does that of each thing kept
abbrev pub AreKeptWithin : List Node → List Kept → Type 0
AreKeptWithin ns ks = AllByRecursion (λ (k : Kept). IsCauseWithin ns k.cause) ks

-- Where the table grows, what was kept stays within it and means the same.
pub record StayKept (ns more : List Node) (ks : List Kept) : Type 0 where
  pub within : AreKeptWithin (ns ++ more) ks
  pub same : all_kept (ns ++ more) ks ≡ all_kept ns ks

abbrev pub KeptStay : Type 0
KeptStay = (ns more : List Node) (ks : List Kept) → AreKeptWithin ns ks → StayKept ns more ks
