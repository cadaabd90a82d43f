use Rattle.lc_desk.proofs.PageImages.{images_stored, pages_called, pages_settled}
use Rattle.lc_desk.proofs.laws.page_areas.Goals as goal

pub returns-clause-images : goal.returns-clause-images
returns-clause-images g c = images_stored g.D.Area

pub returns-clause-called : goal.returns-clause-called
returns-clause-called g c = pages_called g.D.Area

pub returns-clause-settled : goal.returns-clause-settled
returns-clause-settled g c = pages_settled g.D.Area
