-- Yes or no, printed.
use Rattle.listing.proofs.Listed.{brand_line_lem}
use Rattle.listing.proofs.lines.put_brand.Goals as goal

pub returns : goal.returns
returns c = let p = c.put_brand.ensures in (brand_line_lem _ _ c.brand_holds.ensures p.0, p.1)
