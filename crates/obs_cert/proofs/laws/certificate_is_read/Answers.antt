use Rattle.obs_cert.proofs.LawLemmas.{CertificateIsRead-holds, FaultWhereNoCertificate-holds}
use Rattle.obs_cert.proofs.laws.certificate_is_read.Goals as goal

pub returns-clause-claims : goal.returns-clause-claims
returns-clause-claims c = CertificateIsRead-holds

pub returns-clause-fault : goal.returns-clause-fault
returns-clause-fault c = FaultWhereNoCertificate-holds
