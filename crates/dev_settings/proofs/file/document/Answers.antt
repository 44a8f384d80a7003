use Rattle.std.proofs.lemmas.Bool.{false≢true}
use Rattle.dev_settings.proofs.FileLemmas.{document_of-read, document_of-refused}
use Rattle.dev_settings.proofs.file.document.Goals as goal

pub returns-in-Ok : goal.returns-in-Ok
returns-in-Ok c = document_of-read c.args.bytes.now _ c.in-Ok.ensures.ok.0 c.in-Ok.ensures.ok.1

pub returns-else-is_memory : goal.returns-else-is_memory
returns-else-is_memory c =
    document_of-refused c.args.bytes.now
    (c.in-Err.ensures.refused (λ memory. false≢true (c.if-is_memory.ensures.1 memory)))
