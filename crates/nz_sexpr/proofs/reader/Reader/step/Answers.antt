use Rattle.std.proofs.Common.{◌≡◌, ◌++◌, ◌∷◌, sym, subst, arith, [], List, take, get_or, append-nil, append_assoc, length-take, ℕ, ◌+◌, ◌<◌, ◌^◌}
use Rattle.nz_lists.proofs.Fronts.{take_one}
use Rattle.nz_script.specs.text.Text.{HasNone}
use Rattle.nz_script.specs.text.ToldAs.{AreToldAs}
use Rattle.nz_script.specs.text.Reading.{reading_start, read_on, told_on}
use Rattle.nz_sexpr.specs.Matches.{Matches, told}
use Rattle.nz_sexpr.proofs.FedBytes.{read_on-append, told_more, bytes_read}
use Rattle.nz_sexpr.specs.Part.{ends, part_of}
use Rattle.nz_sexpr.proofs.Runs.{told_run}
use Rattle.nz_sexpr.proofs.reader.Reader.step.Goals as goal

pub returns-then-run-gt0-clause-heard : goal.returns-then-run-gt0-clause-heard
returns-then-run-gt0-clause-heard c limits bytes things fits few =
    let run : List ℕ = take c.run-run.result c.args.rest.now in
    let before : AreToldAs (things ++ []) (told_on limits reading_start bytes) = subst (λ o. AreToldAs (things ++ told o) (told_on limits reading_start bytes)) c.requires.settled fits.things in
    let within : HasNone (ends (part_of (read_on reading_start bytes).part)) run = subst (λ p. HasNone (ends p) run) fits.state.part c.run-run.ensures.within in
    let none : AreToldAs [] (told_on limits (read_on reading_start bytes) run) = subst (AreToldAs []) (sym (told_run limits run (read_on reading_start bytes) within)) tt in
    let after : AreToldAs (things ++ []) (told_on limits reading_start (bytes ++ run)) = told_more limits bytes run things [] before none in
    record {
      state = subst (Matches limits _) (sym (read_on-append reading_start bytes run)) (c.read_run.ensures.state c.run-run.ensures.within limits (read_on reading_start bytes) fits.state (omega (arith, bytes_read bytes, length-take c.run-run.result c.args.rest.now)));
      things = subst (λ o. AreToldAs ((things ++ []) ++ told o) (told_on limits reading_start (bytes ++ run))) (sym c.requires.settled) (subst (λ k. AreToldAs k (told_on limits reading_start (bytes ++ run))) (sym (append-nil (things ++ []))) after);
    }

pub returns-then-is_quiet-clause-heard : goal.returns-then-is_quiet-clause-heard
returns-then-is_quiet-clause-heard c limits bytes things fits few =
    let rest : List ℕ = c.args.rest.now in
    let byte : ℕ = get_or rest 0 0 in
    let one : take 1 rest ≡ byte ∷ [] = take_one rest 0 c.requires.rest in
    let before : AreToldAs (things ++ []) (told_on limits reading_start bytes) = subst (λ o. AreToldAs (things ++ told o) (told_on limits reading_start bytes)) c.requires.settled fits.things in
    let few' : (read_on reading_start bytes).at + 1 < 2 ^ 64 = omega (arith, bytes_read bytes, c.requires.rest) in
    let none : AreToldAs [] (told_on limits (read_on reading_start bytes) (byte ∷ [])) = subst (AreToldAs []) (sym (append-nil _)) (c.read_quietly.ensures.heard limits (read_on reading_start bytes) fits.state few') in
    let after : AreToldAs (things ++ []) (told_on limits reading_start (bytes ++ byte ∷ [])) = told_more limits bytes (byte ∷ []) things [] before none in
    record {
      state = rw (one, read_on-append reading_start bytes (byte ∷ [])) (c.read_quietly.ensures.state limits (read_on reading_start bytes) fits.state few');
      things = subst (λ k. AreToldAs ((things ++ []) ++ told c.args.self.now.owed) (told_on limits reading_start (bytes ++ k))) (sym one) (
          subst (λ o. AreToldAs ((things ++ []) ++ told o) (told_on limits reading_start (bytes ++ byte ∷ []))) (sym c.requires.settled)
          (subst (λ k. AreToldAs k (told_on limits reading_start (bytes ++ byte ∷ []))) (sym (append-nil (things ++ []))) after)
          );
    }

pub returns-clause-heard : goal.returns-clause-heard
returns-clause-heard c limits bytes things fits few =
    let rest : List ℕ = c.args.rest.now in
    let one : take 1 rest ≡ get_or rest 0 0 ∷ [] = take_one rest 0 c.requires.rest in
    let heard = told c.read_byte-heard.result.0 in
    let owed = told c.read_byte-heard.result.1 in
    let before : AreToldAs (things ++ []) (told_on limits reading_start bytes) = subst (λ o. AreToldAs (things ++ told o) (told_on limits reading_start bytes)) c.requires.settled fits.things in
    let byte : ℕ = get_or rest 0 0 in
    let few' : (read_on reading_start bytes).at + 1 < 2 ^ 64 = omega (arith, bytes_read bytes, c.requires.rest) in
    let told-all : AreToldAs (heard ++ owed) (told_on limits (read_on reading_start bytes) (byte ∷ [])) = subst (AreToldAs (heard ++ owed)) (sym (append-nil _)) (c.read_byte-heard.ensures.heard limits (read_on reading_start bytes) fits.state few') in
    record {
      state = rw (one, read_on-append reading_start bytes (byte ∷ [])) (c.read_byte-heard.ensures.state limits (read_on reading_start bytes) fits.state few');
      things = rw (one, append_assoc things heard owed) (told_more limits bytes (byte ∷ []) things (heard ++ owed) before told-all);
    }
