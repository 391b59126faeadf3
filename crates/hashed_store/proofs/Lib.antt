mod Chains
