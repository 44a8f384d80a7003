use Rattle.image_out.proofs.Parts.{onto}
use Rattle.image_out.proofs.tiff.Head.push_entry.Goals as goal

pub returns-clause-bytes : goal.returns-clause-bytes
returns-clause-bytes c =
    onto c.args.self.now c.push_short.new.self c.push_long-2.new.self _ _ c.push_short.ensures.bytes
    (onto c.push_short.new.self c.push_short-2.new.self c.push_long-2.new.self _ _ c.push_short-2.ensures.bytes
    (onto c.push_short-2.new.self c.push_long.new.self c.push_long-2.new.self _ _ c.push_long.ensures.bytes
    c.push_long-2.ensures.bytes))
