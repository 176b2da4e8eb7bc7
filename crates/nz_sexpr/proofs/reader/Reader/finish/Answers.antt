use Rattle.std.proofs.Common.{◌++◌, arith, List}
use Rattle.nz_script.specs.text.Text.{Heard}
use Rattle.nz_script.specs.text.ToldAs.{AreToldAs}
use Rattle.nz_script.specs.text.Reading.{reading_start, read_on, told_on, told_open}
use Rattle.nz_sexpr.specs.Matches.{told}
use Rattle.nz_sexpr.proofs.FedBytes.{AreToldAs-append, told_all, bytes_read}
use Rattle.nz_sexpr.proofs.reader.Reader.finish.Goals as goal

pub returns-clause-heard : goal.returns-clause-heard
returns-clause-heard c limits bytes things fits none few =
    let front : List Heard = told_on limits reading_start bytes in
    let end : List Heard = told_open (read_on reading_start bytes) in
    let h = c.reading_is_heard.ensures.heard limits bytes in
    let f : AreToldAs things front = told_all things front c.args.self.now.owed none fits.things in
    let e : AreToldAs (told c.finish.result) end = c.finish.ensures.heard limits (read_on reading_start bytes) fits.state (omega (arith, bytes_read bytes)) in
    (front ++ end, h, AreToldAs-append things (told c.finish.result) front end f e)
