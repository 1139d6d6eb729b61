-- `read_prefix`: the bytes read are the first ones of the file.
use Rattle.program.proofs.FilesLemmas.{prefix_read}
use Rattle.program.proofs.files.read_prefix.Goals as goal

pub returns-in-Ok-clause-bytes : goal.returns-in-Ok-clause-bytes
returns-in-Ok-clause-bytes g c =
    prefix_read g.F.Read.remaining c.take.result _ _ _ _ c.take.ensures.limit c.take.ensures.inner c.new-body.ensures.items
    c.in-Ok.ensures.bytes
