use Rattle.spool_core.proofs.EachImage.{table_or_fault_there}
use Rattle.spool_core.proofs.ReadingLaws.{one_table, table_or_fault, one_fault, one_room}
use Rattle.spool_core.proofs.DocumentLaws.{one_document, documents_of}
use Rattle.spool_core.proofs.laws.one_reading.Goals as goal

pub returns-clause-some : goal.returns-clause-some
returns-clause-some f c are = table_or_fault_there c are

pub returns-clause-table : goal.returns-clause-table
returns-clause-table f s t c a b = one_table c s t a b

pub returns-clause-either : goal.returns-clause-either
returns-clause-either f s g c a b = table_or_fault c g s a b

pub returns-clause-fault : goal.returns-clause-fault
returns-clause-fault h f g c a b = one_fault c f g a b

pub returns-clause-room : goal.returns-clause-room
returns-clause-room f m n c a b = one_room c m n a b

pub returns-clause-document : goal.returns-clause-document
returns-clause-document f j d e c a b = one_document j d e c a b

pub returns-clause-documents : goal.returns-clause-documents
returns-clause-documents f s c has = documents_of s c has
