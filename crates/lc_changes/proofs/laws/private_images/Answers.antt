use Rattle.lc_changes.proofs.Private.{image-abort, image-held, image-run, image-step}
use Rattle.lc_changes.proofs.laws.private_images.Goals as goal

pub returns-clause-step : goal.returns-clause-step
returns-clause-step c = λ m s new event reply images olds later kept sound up no_stop step fits does. image-step m s new event reply images olds later kept sound up no_stop step fits does

pub returns-clause-run : goal.returns-clause-run
returns-clause-run c = λ m s new events replies images olds later kept sound up fits run. image-run m s new events replies images olds later kept sound up fits run

pub returns-clause-reads : goal.returns-clause-reads
returns-clause-reads c = λ m s new node thread segment offset len bytes t images olds sound runs held fits step. image-held m s new node thread segment offset len bytes t images olds sound runs held fits step

pub returns-clause-aborts : goal.returns-clause-aborts
returns-clause-aborts c = λ m s new node thread t images olds later sound runs fits step back same.
    image-abort m s new node thread t images olds later sound runs fits step back same
