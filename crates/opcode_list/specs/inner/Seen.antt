-- How contracts see an opcode that is cut from the bytes: this project's own.
use Rattle.opcode_list.specs.Cuts as cuts
use Rattle.opcode_list.specs.declared.list.RawOpcode.{RawOpcode}

-- an opcode, with the bytes that its slice holds
abbrev pub raw_seen : RawOpcode → cuts.RawOpcode
raw_seen raw = record {
  id = raw.id;
  major = raw.major;
  minor = raw.minor;
  flags = raw.flags;
  params = raw.params.now;
}
