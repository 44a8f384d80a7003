use Rattle.std.proofs.Common.{◌≡◌, ap, rules}
use Rattle.linearise.specs.Parameters.{Parameters}
use Rattle.linearise.proofs.SameParts.{seen_same}
use Rattle.linearise.proofs.parts.Parts.same.Goals as goal

pub returns : goal.returns
returns c =
    let s = c.args.self.now in
    let t = c.args.other.now in
    let rows : s.blacks.rows ≡ t.blacks.rows = search rules in
    let cols : s.blacks.cols ≡ t.blacks.cols = search rules in
    let span : s.scale.span ≡ t.scale.span = search rules in
    let table : s.table ≡ t.table = search rules in (
      λ yes. seen_same s t rows cols span table (c.same.ensures.0 yes),
      λ same. c.same.ensures.1 (ap (λ (p : Parameters). p.blacks) same),
    )
