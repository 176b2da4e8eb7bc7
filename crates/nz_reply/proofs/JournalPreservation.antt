-- What was kept means the same where the table of its terms grows.
use Rattle.std.proofs.Common.{◌≡◌, ℕ, zero, suc, ◌+◌, ◌<◌, List, [], ◌∷◌, ◌++◌, length, refl, sym, ap, ◌∙◌, arith}
use Rattle.std.proofs.lemmas.List.{length-append}
use Rattle.std.specs.List.{AllByRecursion}
use Rattle.std.specs.Prelude.{flat_map, map, slice_get}
use Rattle.std.specs.declared.vec.Vec.{Vec}
use Rattle.std.specs.declared.alloc.Global.{Global}
use Rattle.nz_spec.specs.clauses.Farkas as farkas
use Rattle.nz_spec.specs.clauses.Gates.{holds}
use Rattle.nz_spec.specs.clauses.Literal.{term_literal}
use Rattle.nz_spec.specs.search.Notes as notes
use Rattle.nz_spec.specs.search.Notes.{start_note, atom_note, under_note, term_site, sum_site, cut_site, tight_site, split_site, worth_site, line_site, goal_line_site}
use Rattle.nz_spec.specs.simplex.Climb.{Course, Family}
use Rattle.nz_spec.specs.terms.Table.{Node, TermStays}
use Rattle.nz_spec.specs.terms.Term.{Value, sort_of}
use Rattle.nz_spec.specs.search.Work.{WorkLine, UnitLine, NoteLine, WorkList}
use Rattle.nz_script.specs.replies.Reply as spec
use Rattle.nz_script.specs.run.Transcript as transcript
use Rattle.nz_frac.specs.Operations.{operation_of}
use Rattle.nz_lin.specs.declared.bound.Bound.{Bound}
use Rattle.nz_lin.specs.declared.bound.BoundMultiple.{BoundMultiple}
use Rattle.nz_lin.specs.declared.form.Part.{Part}
use Rattle.nz_lin.specs.Bounds.{bounded, literal_over, multiples_over, HasUnits}
use Rattle.nz_lin.specs.Forms.{AreUnits, NamesUnit, parts_over}
use Rattle.nz_lin.specs.Lines.{NumberedFamily, courses_at, courses_by, family_in}
use Rattle.nz_sexpr.specs.Packed.{packed_heard_view}
use Rattle.nz_term.specs.declared.term_lits.TermLit.{TermLit}
use Rattle.nz_term.specs.TermLits.{AreOfTerms, literal_of}
use Rattle.nz_search.specs.declared.note.Note.{Note}
use Rattle.nz_search.specs.declared.note.Note.TheVariants as note
use Rattle.nz_place.specs.declared.place.Place.{Place}
use Rattle.nz_place.specs.declared.place.Site.{Site}
use Rattle.nz_place.specs.declared.place.Site.TheVariants as site
use Rattle.nz_search.specs.Notes.{forms_over, places_of, note_of, noted_line, AreFormsWithin, IsNoteWithin, AreNotedWithin}
use Rattle.nz_place.specs.Places.{AreNumbersWithin, IsSiteWithin, bindings_by, bindings_in, place_of, site_of}
use Rattle.nz_reply.specs.declared.reply.Cause.{Cause}
use Rattle.nz_reply.specs.declared.reply.Cause.TheVariants as cause
use Rattle.nz_reply.specs.declared.reply.Kept.{Kept}
use Rattle.nz_reply.specs.declared.reply.WorkDone.{WorkDone}
use Rattle.nz_reply.specs.Replies.{reply_of, work_of, cause_of, kept_of, all_kept, IsCauseWithin, AreKeptWithin, KeptStay}

in_front : (ns more : List Node) (i : ℕ) → i < length ns → slice_get (ns ++ more) i ≡ slice_get ns i
in_front [] more i h = absurd (omega (arith, h))
in_front (n ∷ ns) more zero h = refl
in_front (n ∷ ns) more (suc i) h = in_front ns more i (omega (arith, h))

module _ (stays : TermStays) (ns more : List Node) where
  wider : (i : ℕ) → i < length ns → i < length (ns ++ more)
  wider i h = omega (arith, length-append ns more)

  -- ---- Bounds

  parts_wider : (ps : List Part) → AllByRecursion (NamesUnit ns) ps → AllByRecursion (NamesUnit (ns ++ more)) ps
  parts_wider [] h = tt
  parts_wider (p ∷ ps) h = ((wider p.unit h.0.0, h.0.1 ∙ ap sort_of (sym (stays ns more p.unit h.0.0))), parts_wider ps h.1)

  parts_stay : (ps : List Part) → AllByRecursion (NamesUnit ns) ps → parts_over (ns ++ more) ps ≡ parts_over ns ps
  parts_stay [] h = refl
  parts_stay (p ∷ ps) h = λ i. record { coefficient = p.coefficient; unit = stays ns more p.unit h.0.0 i } ∷ parts_stay ps h.1 i

  units_wider : (ps : List Part) → AreUnits ns ps → AreUnits (ns ++ more) ps
  units_wider ps h = record { names = parts_wider ps h.names; in_order = h.in_order }

  bound_wider : (b : Bound) → HasUnits ns b → HasUnits (ns ++ more) b
  bound_wider b h = units_wider b.sides.parts h

  bound_stays : (b : Bound) → HasUnits ns b → literal_over (ns ++ more) b ≡ literal_over ns b
  bound_stays b h = ap (λ ps. bounded b.strict ps b.sides.offset) (parts_stay b.sides.parts h.names)

  multiples_wider : (ms : List BoundMultiple) → AllByRecursion (λ (m : BoundMultiple). HasUnits ns m.bound) ms
      → AllByRecursion (λ (m : BoundMultiple). HasUnits (ns ++ more) m.bound) ms
  multiples_wider [] h = tt
  multiples_wider (m ∷ ms) h = (bound_wider m.bound h.0, multiples_wider ms h.1)

  multiples_stay : (ms : List BoundMultiple) → AllByRecursion (λ (m : BoundMultiple). HasUnits ns m.bound) ms → multiples_over (ns ++ more) ms ≡ multiples_over ns ms
  multiples_stay [] h = refl
  multiples_stay (m ∷ ms) h =
      λ i. (let n : farkas.Multiple = record { literal = bound_stays m.bound h.0 i; multiplier = m.multiplier } in n) ∷ multiples_stay ms h.1 i

  -- ---- Notes

  forms_wider : (fs : List (Vec Part Global)) → AreFormsWithin ns fs → AreFormsWithin (ns ++ more) fs
  forms_wider [] h = tt
  forms_wider (f ∷ fs) h = (units_wider f.items h.0, forms_wider fs h.1)

  forms_stay : (fs : List (Vec Part Global)) → AreFormsWithin ns fs → forms_over (ns ++ more) fs ≡ forms_over ns fs
  forms_stay [] h = refl
  forms_stay (f ∷ fs) h = λ i. parts_stay f.items h.0.names i ∷ forms_stay fs h.1 i

  literals_wider : (ls : List TermLit) → AreOfTerms ns ls → AreOfTerms (ns ++ more) ls
  literals_wider [] h = tt
  literals_wider (l ∷ ls) h = (wider l.term h.0, literals_wider ls h.1)

  literals_stay : (ls : List TermLit) → AreOfTerms ns ls → map (literal_of (ns ++ more)) ls ≡ map (literal_of ns) ls
  literals_stay [] h = refl
  literals_stay (l ∷ ls) h = λ i. term_literal (stays ns more l.term h.0 i) l.sign ∷ literals_stay ls h.1 i

  note_within : (n : Note) → IsNoteWithin ns n → IsNoteWithin (ns ++ more) n
  note_within (note.Start start) h = forms_wider start.forms.items h
  note_within (note.Atom t) h = wider t h
  note_within (note.Bound b) h = bound_wider b h
  note_within (note.Form atom) h = tt
  note_within (note.Under literals) h = literals_wider literals.items h
  note_within (note.Told atom sign) h = tt

  note_stays : (n : Note) → IsNoteWithin ns n → note_of (ns ++ more) n ≡ note_of ns n
  note_stays (note.Start start) h = ap (λ fs. start_note fs (places_of start.places.items)) (forms_stay start.forms.items h)
  note_stays (note.Atom t) h = ap (λ u. atom_note (holds u)) (stays ns more t h)
  note_stays (note.Bound b) h = ap atom_note (bound_stays b h)
  note_stays (note.Form atom) h = refl
  note_stays (note.Under literals) h = ap under_note (literals_stay literals.items h)
  note_stays (note.Told atom sign) h = refl

  notes_within : (lines : List (WorkLine Note)) → AreNotedWithin ns lines → AreNotedWithin (ns ++ more) lines
  notes_within [] h = tt
  notes_within (NoteLine n ∷ lines) h = (note_within n h.0, notes_within lines h.1)
  notes_within (UnitLine entry ∷ lines) h = notes_within lines h

  notes_stay : (lines : List (WorkLine Note)) → AreNotedWithin ns lines → map (noted_line (ns ++ more)) lines ≡ map (noted_line ns) lines
  notes_stay [] h = refl
  notes_stay (NoteLine n ∷ lines) h = λ i. NoteLine (note_stays n h.0 i) ∷ notes_stay lines h.1 i
  notes_stay (UnitLine entry ∷ lines) h = λ i. UnitLine entry ∷ notes_stay lines h i

  -- ---- Places

  numbers_wider : {A : Type 0} → (ps : List (ℕ × A)) → AreNumbersWithin ns ps → AreNumbersWithin (ns ++ more) ps
  numbers_wider [] h = tt
  numbers_wider (p ∷ ps) h = (wider p.0 h.0, numbers_wider ps h.1)

  -- what stands at a number of the table
  node_stays : (i : ℕ) → i < length ns → slice_get (ns ++ more) i ≡ slice_get ns i
  node_stays i h = in_front ns more i h

  bindings_stay : (ps : List (ℕ × Value)) → AreNumbersWithin ns ps → bindings_in (ns ++ more) ps ≡ bindings_in ns ps
  bindings_stay [] h = refl
  bindings_stay (p ∷ ps) h = λ i. bindings_by (node_stays p.0 h.0 i) p.1 ++ bindings_stay ps h.1 i

  courses_stay : (ps : List (ℕ × Course)) → AreNumbersWithin ns ps → flat_map (courses_at (ns ++ more)) ps ≡ flat_map (courses_at ns) ps
  courses_stay [] h = refl
  courses_stay (p ∷ ps) h = λ i. courses_by (node_stays p.0 h.0 i) p.1 ++ courses_stay ps h.1 i

  family_stays : (f : NumberedFamily) → AreNumbersWithin ns f.courses → family_in (ns ++ more) f ≡ family_in ns f
  family_stays f h = ap (λ cs. let g : Family = record { courses = cs; range = f.range } in g) (courses_stay f.courses h)

  site_within : (s : Site) → IsSiteWithin ns s → IsSiteWithin (ns ++ more) s
  site_within (site.Term t) h = wider t h
  site_within (site.Goal goal) h = tt
  site_within site.Joining h = tt
  site_within (site.Exchange leaves enters) h = tt
  site_within (site.Value form) h = tt
  site_within (site.Sum ms) h = multiples_wider ms.items h
  site_within (site.Cut ms) h = multiples_wider ms.items h
  site_within (site.Tight b) h = bound_wider b h
  site_within (site.Split u) h = wider u h
  site_within (site.Move form moves side) h = tt
  site_within (site.Limit form side) h = tt
  site_within (site.Model form) h = tt
  site_within (site.Worth t model) h = (wider t h.0, numbers_wider model h.1)
  site_within (site.Line t family) h = (wider t h.0, numbers_wider family.courses h.1)
  site_within (site.GoalLine goal family) h = numbers_wider family.courses h
  site_within (site.Scaling forms moves) h = tt

  site_stays : (s : Site) → IsSiteWithin ns s → site_of (ns ++ more) s ≡ site_of ns s
  site_stays (site.Term t) h = ap term_site (stays ns more t h)
  site_stays (site.Goal goal) h = refl
  site_stays site.Joining h = refl
  site_stays (site.Exchange leaves enters) h = refl
  site_stays (site.Value form) h = refl
  site_stays (site.Sum ms) h = ap sum_site (multiples_stay ms.items h)
  site_stays (site.Cut ms) h = ap cut_site (multiples_stay ms.items h)
  site_stays (site.Tight b) h = ap tight_site (bound_stays b h)
  site_stays (site.Split u) h = ap split_site (stays ns more u h)
  site_stays (site.Move form moves side) h = refl
  site_stays (site.Limit form side) h = refl
  site_stays (site.Model form) h = refl
  site_stays (site.Worth t model) h = λ i. worth_site (stays ns more t h.0 i) (bindings_stay model h.1 i)
  site_stays (site.Line t family) h = λ i. line_site (stays ns more t h.0 i) (family_stays family h.1 i)
  site_stays (site.GoalLine goal family) h = ap (goal_line_site goal) (family_stays family h)
  site_stays (site.Scaling forms moves) h = refl

  place_stays : (p : Place) → IsSiteWithin ns p.site → place_of (ns ++ more) p ≡ place_of ns p
  place_stays p h = ap (λ s. let q : notes.Place = record { operation = operation_of p.wide; site = s } in q) (site_stays p.site h)

  -- ---- What was kept

  work_stays : (d : WorkDone) → AreNotedWithin ns d.work → work_of (ns ++ more) d ≡ work_of ns d
  work_stays d h = ap (λ ls. let w : WorkList notes.Note = record { lines = ls; limit = d.limit } in w) (notes_stay d.work h)

  cause_within : (c : Cause) → IsCauseWithin ns c → IsCauseWithin (ns ++ more) c
  cause_within cause.Plain h = tt
  cause_within (cause.Spent done) h = notes_within done.value.work h
  cause_within (cause.Stopped stopped) h =
      record { site = site_within stopped.value.place.site h.site; noted = notes_within stopped.value.done.work h.noted }

  cause_stays : (c : Cause) → IsCauseWithin ns c → cause_of (ns ++ more) c ≡ cause_of ns c
  cause_stays cause.Plain h = refl
  cause_stays (cause.Spent done) h = ap spec.spent (work_stays done.value h)
  cause_stays (cause.Stopped stopped) h = λ i. spec.stopped (place_stays stopped.value.place h.site i) (work_stays stopped.value.done h.noted i)

  all_within : (ks : List Kept) → AreKeptWithin ns ks → AreKeptWithin (ns ++ more) ks
  all_within [] h = tt
  all_within (k ∷ ks) h = (cause_within k.cause h.0, all_within ks h.1)

  one_stays : (k : Kept) → IsCauseWithin ns k.cause → kept_of (ns ++ more) k ≡ kept_of ns k
  one_stays k h =
      let heard = packed_heard_view k.heard in
      ap (λ c. let r : transcript.Kept = record { heard = heard; reply = reply_of heard.what k.reply; cause = c } in r) (cause_stays k.cause h)

  all_stay : (ks : List Kept) → AreKeptWithin ns ks → all_kept (ns ++ more) ks ≡ all_kept ns ks
  all_stay [] h = refl
  all_stay (k ∷ ks) h = ap (λ x. x ∷ all_kept (ns ++ more) ks) (one_stays k h.0) ∙ ap (λ xs. kept_of ns k ∷ xs) (all_stay ks h.1)

pub kept_stays : TermStays → KeptStay
kept_stays stays ns more ks h = record { within = all_within stays ns more ks h; same = all_stay stays ns more ks h }
