-- The examples are computed from the definitions: the script by its things, the short texts by reading them.
use Rattle.std.proofs.Common.{◌≡◌, ℕ, List, [], ◌∷◌, None, codes, refl, subst, inl, map, rules}
use Rattle.nz_script.specs.text.Text.{Groups, no_groups, groups, single, gap, word, Thing, loose, command, Open, Limits, Hears, AreLongest, script_pieces, script_limits, heard_from, text_of}
use Rattle.nz_script.specs.run.Run.{solve_limit}
use Rattle.nz_script.specs.replies.Right.{beginning}
use Rattle.nz_script.specs.run.Transcript.{Kept, IsTranscript, AreRight, texts_of}
use Rattle.nz_script.specs.worked.Texts.{Sample, AreHeard, comment_samples, string_samples, quoted_samples, word_samples, group_samples, narrow_limits, limit_samples}
use Rattle.nz_script.specs.text.Reading.{hear_on, reading_start}
use Rattle.nz_script.proofs.Readings.{hears}
use Rattle.nz_script.specs.worked.Example.{example_script, example_transcript, example_output}

-- words, with a space between neighbours
abbrev spaced : List (List ℕ) → Groups
spaced [] = no_groups
spaced (w ∷ []) = groups (single (word w)) no_groups
spaced (w ∷ v ∷ ws) = groups (single (word w)) (groups (single (gap 32)) (spaced (v ∷ ws)))

abbrev things : List Thing
things =
    command (spaced (codes "declare-const" ∷ codes "p" ∷ codes "Bool" ∷ []))
    ∷ command (spaced (codes "assert" ∷ codes "p" ∷ []))
    ∷ loose (gap 10)
    ∷ command (spaced (codes "check-sat" ∷ []))
    ∷ loose (gap 32)
    ∷ command (spaced (codes "get-model" ∷ []))
    ∷ command (spaced (codes "exit" ∷ []))
    ∷ []

abbrev nothing_open : Open
nothing_open = record { lists = []; last = None }

pub example_output_is : texts_of example_transcript ≡ example_output
example_output_is = refl

spelled : text_of (script_pieces things nothing_open) ≡ example_script
spelled = refl

longest : AreLongest (script_pieces things nothing_open)
longest = search rules

told : map (λ (k : Kept). k.heard) example_transcript ≡ heard_from script_limits 0 things nothing_open
told = refl

right : AreRight (beginning solve_limit) example_transcript
right = search rules

pub example_is_transcript : IsTranscript solve_limit example_script example_transcript
example_is_transcript =
    record {
      heard = heard_from script_limits 0 things nothing_open;
      rest = [];
      hears = record { things = things; still_open = nothing_open; spelled = spelled; longest = longest; told = refl };
      told = search rules;
      right = right;
      whole = inl refl;
    }

-- ---- Short texts

all_heard : (limits : Limits) (ss : List Sample) → map (λ (s : Sample). hear_on limits reading_start s.text) ss ≡ map (λ (s : Sample). s.heard) ss → AreHeard limits ss
all_heard limits [] e = tt
all_heard limits (s ∷ ss) e =
    let first : hear_on limits reading_start s.text ≡ s.heard = cc in
    let others : map (λ (s : Sample). hear_on limits reading_start s.text) ss ≡ map (λ (s : Sample). s.heard) ss = cc in
    (subst (Hears limits s.text) first (hears limits s.text), all_heard limits ss others)

pub comments_heard : AreHeard script_limits comment_samples
comments_heard = all_heard script_limits comment_samples refl

pub strings_heard : AreHeard script_limits string_samples
strings_heard = all_heard script_limits string_samples refl

pub quoted_heard : AreHeard script_limits quoted_samples
quoted_heard = all_heard script_limits quoted_samples refl

pub words_heard : AreHeard script_limits word_samples
words_heard = all_heard script_limits word_samples refl

pub groups_heard : AreHeard script_limits group_samples
groups_heard = all_heard script_limits group_samples refl

pub limits_heard : AreHeard narrow_limits limit_samples
limits_heard = all_heard narrow_limits limit_samples refl
