use Rattle.rangesync_c.proofs.asked.selected.Goals as goal

pub returns-in-Selected-clause-which : goal.returns-in-Selected-clause-which
returns-in-Selected-clause-which c =
    let read = c.selecting.ensures.only c.in-Selected.which c.in-Selected.range c.in-Selected.used c.in-Selected.is in
    (read.0, read.1)

pub returns-in-Selected-clause-text : goal.returns-in-Selected-clause-text
returns-in-Selected-clause-text c =
    (c.selecting.ensures.only c.in-Selected.which c.in-Selected.range c.in-Selected.used c.in-Selected.is).2
